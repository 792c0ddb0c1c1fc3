use Rattle.std.proofs.Common.{ℕ, List, ◌≡◌, ◌++◌, subst}
use Rattle.std.specs.Prelude.{OnOk}
use Rattle.subsetter_cff.specs.Write.NewDicts.TopDictView.{top_dict_of}
use Rattle.subsetter_cff.proofs.WriteLaws.NewDictsLaws.WrittenEntries.{six_written, named_is}
use Rattle.subsetter_cff.proofs.write.new_dicts.top_dict.write_named.Goals as goal

pub returns-clause-ok : goal.returns-clause-ok
returns-clause-ok c =
    subst (λ (l : List ℕ). OnOk c.write_numbers-2.result (c.write_numbers-2.new.w ≡ c.args.w.now ++ l)) (named_is (top_dict_of c.args.top.now))
    (six_written c.write_numbers-2.result c.args.w.now c.write_registry.new.w c.write_string.new.w c.write_string-2.new.w c.write_string-3.new.w c.write_numbers.new.w c.write_numbers-2.new.w _ _ _ _ _ _
    c.in_ok-write_registry.ensures.ok c.in_ok-write_string.ensures.ok c.in_ok-write_string-2.ensures.ok c.in_ok-write_string-3.ensures.ok c.in_ok-write_numbers.ensures.ok c.write_numbers-2.ensures.ok)
