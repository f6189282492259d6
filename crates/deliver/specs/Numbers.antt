-- Document 01, "Numbers given back": 21 to 31 of a refused delivery, and the others.
-- Assumes nothing.
use Rattle.std.specs.Prelude.{ℕ}
use Rattle.deliver.specs.declared.Refusal.{Refusal}
use Rattle.deliver.specs.declared.Refusal.TheVariants.{Malformed, WrongSession, SenderNotSource, FromSelf}
use Rattle.deliver.specs.declared.Refusal.TheVariants.{NotInRoster, Disagreement, OutOfWindow, Contradiction}
use Rattle.deliver.specs.declared.Refusal.TheVariants.{WrongWidth, DigestContradiction, NotSessionTraffic}
use Rattle.deliver.specs.declared.Delivery.{Delivery}
use Rattle.deliver.specs.declared.Delivery.TheVariants.{Accepted, Ended, BadState, Refused}

abbrev pub refusal_no : Refusal → ℕ
refusal_no (Malformed e) = 21
refusal_no (WrongSession saw) = 22
refusal_no (SenderNotSource claimed source) = 23
refusal_no FromSelf = 24
refusal_no (NotInRoster peer) = 25
refusal_no (Disagreement theirs ours) = 26
refusal_no (OutOfWindow tick pending) = 27
refusal_no (Contradiction peer tick) = 28
refusal_no (WrongWidth saw agreed) = 29
refusal_no (DigestContradiction peer tick) = 30
refusal_no (NotSessionTraffic kind) = 31

abbrev pub delivery_no : Delivery → ℕ
delivery_no Accepted = 0
delivery_no (Ended o) = 1
delivery_no BadState = 20
delivery_no (Refused r) = refusal_no r
