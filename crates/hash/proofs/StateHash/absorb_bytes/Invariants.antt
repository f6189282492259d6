use Rattle.std.proofs.Common.{◌≡◌, drop}
use Rattle.hash.specs.Fnv.{fnv}
use Rattle.hash.proofs.StateHash.absorb_bytes.Given as goal

abbrev pub invariant-loop-byte : goal.invariant-loop-byte
invariant-loop-byte l = fnv l.h.value (drop l.byte-index l.bytes) ≡ fnv l.initial.h.value l.bytes
