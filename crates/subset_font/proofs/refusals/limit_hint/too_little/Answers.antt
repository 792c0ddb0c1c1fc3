use Rattle.subset_font.proofs.refusals.limit_hint.too_little.Goals as goal

pub returns : goal.returns
returns c = record { limits = c.wider.result; are_wanted = c.wider.ensures; size = c.in_ok-size.size; is_size = c.in_ok-size.ensures; hint_is = c.little.ensures }
