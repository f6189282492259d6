-- Laws of bytes that come in pieces: what a record gathers is read as the definition reads it, one use after the other
-- reads on, and the lines of all pieces together are the script's. Assumes nothing.
use Prim.Native.Nat.{ℕ, zero, suc, ◌+◌, ◌-◌, ◌≤◌, ◌<◌, min}
use mathlib.Core.Path.{◌≡◌, refl, sym, ap, ◌∙◌}
use mathlib.Core.Logic.{◌≢◌}
use mathlib.Core.List.{List, [], ◌∷◌, ◌++◌, append_assoc, append-nil}
use native.Mathlib.Omega.{arith}
use lib.ListN.{length, take, drop, get_or, length-append, length-take, length-drop}
use lib.Seq.{take_all, take-suc, take-take, take-add, take-append_seam, length-take-le}
use Rattle.std.specs.Prelude.{Option, None, Some}
use Rattle.logic.specs.Test.{when◌then◌else◌}
use Rattle.text.specs.Text.{text_limit, put_within, join}
use Rattle.text.proofs.Writing.{within_room}
use Rattle.session.specs.Session.{fresh}
use Rattle.session.specs.declared.Session.{Session}
use Rattle.script.specs.Records.{longest, record_size, record_lacks}
use Rattle.script.proofs.Laws.{whole_before, size_is, lacks_some, lacks_part}
use Rattle.runner.specs.declared.Form.{Form}
use Rattle.runner.specs.Runner.{no_params, run_record, record_lines, Prints}
use Rattle.runner.specs.Script.{Reading, hold_by, hold, take_in, reading, from, closing, script_lines}
use Rattle.runner.proofs.Laws.{waits, reading-append}
use Rattle.stream.specs.Stream.{reading_of, Feeds, Reads, handed_from, handed}

-- ---- what was said before

-- a reading with lines in front of those that it has said
abbrev behind : List ℕ → Reading → Reading
behind lines r = reading_of r.session r.begun (lines ++ r.said)

hold_behind : (form : Form) (lines : List ℕ) (s : Session) (bytes said : List ℕ) (size : Option ℕ)
    → hold_by form s bytes (lines ++ said) size ≡ behind lines (hold_by form s bytes said size)
unfolding hold_by
hold_behind form lines s bytes said None = refl
hold_behind form lines s bytes said (Some size) =
    ap (reading_of (run_record s bytes) []) (append_assoc lines said (record_lines s bytes form))

-- and so it reads on
reading_behind : (form : Form) (lines : List ℕ) (r : Reading) (bytes : List ℕ)
    → reading form (behind lines r) bytes ≡ behind lines (reading form r bytes)
unfolding reading take_in hold
reading_behind form lines r [] = refl
reading_behind form lines r (b ∷ bytes) =
    ap (λ (x : Reading). reading form x bytes)
    (hold_behind form lines r.session (r.begun ++ (b ∷ [])) r.said (record_size (r.begun ++ (b ∷ []))))
    ∙ reading_behind form lines (take_in form r b) bytes

module _ (form : Form) (s : Session) (begun said : List ℕ) (bytes : List ℕ) where
  pub reading_apart : reading form (reading_of s begun said) bytes
      ≡ behind said (reading form (reading_of s begun []) bytes)
  reading_apart =
      ap (λ (x : List ℕ). reading form (reading_of s begun x) bytes) (sym (append-nil said))
      ∙ reading_behind form said (reading_of s begun []) bytes

-- ---- a record's bytes

-- those that had begun and those used of a piece, of which none before the last makes it whole
pub record Gathers (begun piece : List ℕ) (used : ℕ) (bytes : List ℕ) : Type 0 where
  pub within : used ≤ length piece
  pub onward : 0 < length piece → 0 < used
  pub all : bytes ≡ begun ++ take used piece
  pub part : (k : ℕ) → k < used → record_size (begun ++ take k piece) ≡ None

-- a whole record at the front of a piece
module _ (piece : List ℕ) (n : ℕ) (e : record_size piece ≡ Some n) where
  some : 0 < n
  some = omega (arith, (size_is piece n e).0)

  pub gathers_here : Gathers [] piece n (take n piece)
  gathers_here = record {
    within = (size_is piece n e).1;
    onward = λ l. some;
    all = refl;
    part = λ k l. (whole_before piece n k e l).0;
  }

  pub whole_here : record_size (take n piece) ≡ Some n
  whole_here = (whole_before piece n 0 e some).1

-- as many bytes as the record waits for
pub gathers_more : (begun piece bytes : List ℕ) (used : ℕ) → record_size begun ≡ None
    → used ≡ min (record_lacks begun) (length piece) → bytes ≡ begun ++ take used piece
    → Gathers begun piece used bytes
gathers_more begun piece bytes used part e all = record {
  within = omega arith;
  onward = λ l. omega (arith, lacks_some begun part);
  all = all;
  part = λ k l. lacks_part begun (take k piece) (rw length-take (omega arith));
}

module _ (form : Form) (s : Session) (said begun piece bytes : List ℕ) where
  pub reading_gathered : (used : ℕ) → record_size begun ≡ None → Gathers begun piece used bytes
      → reading form (reading_of s begun said) (take used piece) ≡ hold form s bytes said
  unfolding reading take_in hold hold_by
  reading_gathered zero e g = rw (g.all, append-nil, e)
  reading_gathered (suc k) e g =
      let last = take-suc piece k 0 (omega (arith, g.within)) in
      let some : (j : ℕ) → j < length (take k piece) → record_size (begun ++ take (suc j) (take k piece)) ≡ None =
      λ j l.
      let few : suc j ≤ k = omega (arith, rw length-take at l) in
      rw (take-take (suc j) k piece few) (g.part (suc j) (omega arith)) in
      rw (
        g.all,
        last,
        reading-append form _ (take k piece) (get_or piece k 0 ∷ []),
        waits form s said begun (take k piece) some,
        append_assoc,
      )

module _ (form : Form) (s : Session) (begun piece bytes : List ℕ) (used : ℕ) (e : record_size begun ≡ None)
    (g : Gathers begun piece used bytes) where
  pub feeds_part : record_size bytes ≡ None → Feeds form (reading_of s begun []) piece used (reading_of s bytes [])
  unfolding hold hold_by
  feeds_part part = record {
    within = g.within;
    onward = g.onward;
    reads = reading_gathered form s [] begun piece bytes used e g ∙ rw part;
  }

  pub feeds_whole : (size : ℕ) → record_size bytes ≡ Some size → {after : Session} {line : List ℕ}
      → Prints (run_record s bytes) (record_lines s bytes form) after line
      → Feeds form (reading_of s begun []) piece used (reading_of after [] line)
  unfolding hold hold_by
  feeds_whole size whole p = record {
    within = g.within;
    onward = g.onward;
    reads = reading_gathered form s [] begun piece bytes used e g ∙ rw (whole, p.next, p.wrote);
  }

-- nothing has begun
pub none_begun : record_size [] ≡ None
unfolding record_size when◌then◌else◌
none_begun = refl

pub empty : (xs : List ℕ) → length xs ≡ 0 → xs ≡ []
empty [] e = refl
empty (x ∷ xs) e = absurd (omega (arith, e))

-- a buffer takes as many bytes of a record as it waits for
pub gathers_put : (begun piece after : List ℕ) (lacks used : ℕ) → record_size begun ≡ None
    → lacks ≡ record_lacks begun → length begun + lacks ≤ longest → used ≡ min lacks (length piece)
    → after ≡ put_within longest begun (take used piece) → Gathers begun piece used after
gathers_put begun piece after lacks used part e room few put =
    gathers_more begun piece after used part (rw (← e) few)
    (put ∙ within_room longest begun (take used piece) (rw length-take (omega arith)))

-- ---- one use after the other

module _ (form : Form) (r : Reading) (piece : List ℕ) (s : Session) (begun said : List ℕ) (used : ℕ)
    (e : reading form r (take used piece) ≡ reading_of s begun said) where
  pub reads_on : (more : ℕ) (t : Session) (rest lines : List ℕ)
      → Feeds form (reading_of s begun []) (drop used piece) more (reading_of t rest lines)
      → reading form r (take (used + more) piece) ≡ reading_of t rest (said ++ lines)
  reads_on more t rest lines f =
      let next = take more (drop used piece) in
      ap (reading form r) (take-add used more piece)
      ∙ reading-append form r (take used piece) next
      ∙ ap (λ (x : Reading). reading form x next) e
      ∙ reading_apart form s begun said next
      ∙ ap (behind said) f.reads

-- what is used of the rest of a piece is within the piece, and is some of it
pub fed_within : {form : Form} {r s : Reading} {more : ℕ} (piece : List ℕ) (used : ℕ) → used < length piece
    → Feeds form r (drop used piece) more s → (used + more ≤ length piece) × (0 < more)
fed_within piece used l f =
    (omega (arith, l, rw length-drop at f.within), f.onward (rw length-drop (omega arith)))

-- a piece that is fed as far as `used`: what it came to so far is in `out`
pub record FedTo (form : Form) (r : Reading) (piece : List ℕ) (s : Session) (begun : List ℕ) (used : ℕ)
    (out : List ℕ) : Type 0 where
  pub within : used ≤ length piece
  pub unsaid : used ≡ 0 → out ≡ []
  pub reads : reading form r (take used piece) ≡ reading_of s begun out

module _ (form : Form) (piece : List ℕ) where
  pub fed_none : (s : Session) (begun : List ℕ) → FedTo form (reading_of s begun []) piece s begun 0 []
  unfolding reading
  fed_none s begun = record { within = omega arith; unsaid = λ e. refl; reads = refl }

  pub fed_more : (r : Reading) (s t : Session) (begun after line out next : List ℕ) (used more limit : ℕ)
      → FedTo form r piece s begun used out
      → Feeds form (reading_of s begun []) (drop used piece) more (reading_of t after line)
      → length line ≤ text_limit → used < length piece → length out + text_limit ≤ limit
      → next ≡ put_within limit out line → FedTo form r piece t after (used + more) next
  fed_more r s t begun after line out next used more limit f fed few going free e =
      let some : 0 < length (drop used piece) = rw length-drop (omega arith) in
      record {
        within = omega (arith, f.within, rw length-drop at fed.within);
        unsaid = λ z. absurd (omega (arith, z, fed.onward some));
        reads = reads_on form r piece s begun out used f.reads more t after line fed
            ∙ ap (reading_of t after) (sym (e ∙ within_room limit out line (omega arith)));
      }

-- a piece that is read as far as `used`, whatever was said
pub record ReadTo (form : Form) (r : Reading) (piece : List ℕ) (s : Session) (begun : List ℕ) (used : ℕ) : Type 0 where
  pub within : used ≤ length piece
  pub next : (reading form r (take used piece)).session ≡ s
  pub front : (reading form r (take used piece)).begun ≡ begun

module _ (form : Form) (piece : List ℕ) where
  pub read_none : (s : Session) (begun : List ℕ) → ReadTo form (reading_of s begun []) piece s begun 0
  unfolding reading
  read_none s begun = record { within = omega arith; next = refl; front = refl }

  pub read_more : (r : Reading) (s t : Session) (begun after lines : List ℕ) (used more : ℕ)
      → ReadTo form r piece s begun used
      → Feeds form (reading_of s begun []) (drop used piece) more (reading_of t after lines)
      → ReadTo form r piece t after (used + more)
  read_more r s t begun after lines used more f fed =
      let here = reading form r (take used piece) in
      let same : here ≡ reading_of s begun here.said =
      ap (λ (x : Session). reading_of x here.begun here.said) f.next
      ∙ ap (λ (x : List ℕ). reading_of s x here.said) f.front in
      let on = reads_on form r piece s begun here.said used same more t after lines fed in
      record {
        within = omega (arith, f.within, rw length-drop at fed.within);
        next = ap (λ (x : Reading). x.session) on;
        front = ap (λ (x : Reading). x.begun) on;
      }

  -- up to its end
  pub read_all : (r : Reading) (s : Session) (begun : List ℕ) (used : ℕ)
      → ReadTo form r piece s begun used → length piece ≤ used → Reads form r piece s begun
  read_all r s begun used f l =
      let all = take_all used piece l in record { next = rw all at f.next; rest = rw all at f.front }

-- ---- all pieces

module _ (form : Form) where
  from_here : (s : Session) (begun said : List ℕ) (pieces : List (List ℕ))
      → closing form (reading form (reading_of s begun said) (join pieces))
      ≡ said ++ handed_from form s begun pieces
  unfolding join reading closing handed_from
  from_here s begun said [] = refl
  from_here s begun said (p ∷ ps) =
      let r = reading form (reading_of s begun []) p in
      ap (closing form)
      (reading-append form (reading_of s begun said) p (join ps)
      ∙ ap (λ (x : Reading). reading form x (join ps)) (reading_apart form s begun said p))
      ∙ from_here r.session r.begun (said ++ r.said) ps
      ∙ append_assoc said r.said (handed_from form r.session r.begun ps)

  -- however the bytes come in pieces, what is handed to be written is, put together, what the script prints
  pub handed_whole : (pieces : List (List ℕ)) → handed form pieces ≡ script_lines form (join pieces)
  unfolding handed script_lines from
  handed_whole pieces = sym (from_here (fresh no_params) [] [] pieces)
