use Rattle.std.proofs.Common.{◌≡◌, ◌+◌, ◌*◌, ◌%◌, ◌<◌, drop}
use Rattle.std.specs.List.{fold}
use Rattle.pdf_text.proofs.tag.digest_after.Given as goal

abbrev pub invariant-loop-b : goal.invariant-loop-b
invariant-loop-b l = record {
  most : l.h < 4294967291;
  so_far : fold (λ h b. (65599 * h + b + 1) % 4294967291) l.h (drop l.b-index l.bytes) ≡ fold (λ h b. (65599 * h + b + 1) % 4294967291) l.start l.bytes;
}
