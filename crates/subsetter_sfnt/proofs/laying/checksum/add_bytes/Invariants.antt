use Rattle.std.proofs.Common.{◌≡◌, ◌+◌, ◌%◌, ◌^◌, drop}
use Rattle.subsetter_sfnt.specs.Laying.Weights.{weighed}
use Rattle.subsetter_sfnt.proofs.laying.checksum.add_bytes.Given as goal

abbrev pub invariant-loop-byte : goal.invariant-loop-byte
invariant-loop-byte l = record {
  phase : l.phase ≡ (l.at + l.byte-index) % 4;
  rest : (l.sum + weighed (l.at + l.byte-index) (drop l.byte-index l.bytes)) % 2 ^ 32 ≡ (l.start + weighed l.at l.bytes) % 2 ^ 32;
}
