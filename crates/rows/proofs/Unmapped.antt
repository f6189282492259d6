-- A list of lists, mapped within by what changes nothing, is that list. Nothing here needs it any more: docs/PORT.md
-- names it, so it stands. Assumes nothing.
use mathlib.Core.Path.{◌≡◌, ◌∙◌}
use mathlib.Core.List.{List, map, map-id}

pub unmapped : {X : Type 0} (xs : List (List X)) → map (λ (l : List X). map (λ (v : X). v) l) xs ≡ xs
unmapped {X} xs = (λ i. map (λ (l : List X). map-id l i) xs) ∙ map-id xs
