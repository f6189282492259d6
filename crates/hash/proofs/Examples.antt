-- Worked examples, computed from the definitions; the program `vectors` runs the whole published list.
-- Assumes nothing.
use Rattle.std.proofs.Common.{◌≡◌, [], ◌∷◌, refl}
use Rattle.hash.specs.Fnv.{start, fnv, le_bytes}

-- P10: the hash of nothing is the start value
p10 : fnv start [] ≡ start
unfolding fnv
p10 = refl

-- "a" and "foobar", of FNV's published vectors
of_a : fnv start (0x61 ∷ []) ≡ 0xaf63dc4c8601ec8c
unfolding fnv
of_a = refl

of_foobar : fnv start (0x66 ∷ 0x6f ∷ 0x6f ∷ 0x62 ∷ 0x61 ∷ 0x72 ∷ []) ≡ 0x85944171f73967e8
unfolding fnv
of_foobar = refl

-- little-endian, and as many bytes as the width has
le_32 : le_bytes 4 0x04030201 ≡ 1 ∷ 2 ∷ 3 ∷ 4 ∷ []
unfolding le_bytes
le_32 = refl

le_64 : le_bytes 8 0x04030201 ≡ 1 ∷ 2 ∷ 3 ∷ 4 ∷ 0 ∷ 0 ∷ 0 ∷ 0 ∷ []
unfolding le_bytes
le_64 = refl
