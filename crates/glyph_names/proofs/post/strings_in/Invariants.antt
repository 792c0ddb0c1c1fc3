use Rattle.std.proofs.Common.{◌≡◌, ◌++◌, ◌-◌, map}
use Rattle.glyph_names.specs.Post.{pascal_strings}
use Rattle.glyph_names.proofs.post.strings_in.Given as goal

abbrev pub invariant-loop-i : goal.invariant-loop-i
invariant-loop-i l = map (λ s. s.now) l.strings.items ++ pascal_strings (l.most - l.i) l.rest ≡ pascal_strings l.most l.bytes
