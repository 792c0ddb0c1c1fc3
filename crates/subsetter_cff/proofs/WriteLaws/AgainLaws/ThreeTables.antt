-- A subset of a subset, said of the bytes of three tables.
use Rattle.std.proofs.Common.{ℕ, ◌≤◌, List, length, arith, ◌∙◌, sym, subst}
use Rattle.std.proofs.lemmas.Option.{same_Some}
use Rattle.subsetter_cff.specs.Write.Subset.{IsCffSubset}
use Rattle.subsetter_cff.specs.Write.Headline.{IsSubsetTable}
use Rattle.subsetter_cff.specs.Write.Again.{TablesCompose, TablesKeepAllCharStrings, AnsweredAgain}
use Rattle.subsetter_cff.proofs.WriteLaws.Headline.{answered_is_subset}
use Rattle.subsetter_cff.proofs.WriteLaws.AgainLaws.Composition.{is_composed, keeps_char_strings}
use Rattle.subsetter_cff.proofs.WriteLaws.AgainLaws.Tables.{stays_from_then_on}

-- the second source is the first copy
same_copy : (bytes out again : List ℕ) (tokens depth : ℕ) (first second : List ℕ) (a : IsSubsetTable bytes tokens depth first out) (b : IsSubsetTable out tokens depth second again) → IsCffSubset a.copy tokens depth second b.copy
same_copy bytes out again tokens depth first second a b = subst (λ c. IsCffSubset c tokens depth second b.copy) (same_Some _ _ (sym b.source_is ∙ a.copy_is)) b.kept

pub tables_compose : TablesCompose
tables_compose bytes out again tokens depth first second a b =
    let both = is_composed a.source a.copy b.copy tokens depth first second a.kept (same_copy bytes out again tokens depth first second a b) in
    (both.0, record { source = a.source; source_is = a.source_is; copy = b.copy; copy_is = b.copy_is; kept = both.1 })

pub tables_keep_char_strings : TablesKeepAllCharStrings
tables_keep_char_strings bytes out again tokens depth first all a they b = record {
  one = a.copy;
  one_is = a.copy_is;
  other = b.copy;
  other_is = b.copy_is;
  same = keeps_char_strings a.source a.copy b.copy tokens depth first all a.kept they (same_copy bytes out again tokens depth first all a b);
}

pub answered_again : AnsweredAgain
answered_again bytes tokens depth first all out again asked answered they e =
    let a = answered_is_subset bytes tokens depth first out asked.deep asked.some asked.few answered in
    let some : 1 ≤ length all = omega (arith, asked.some, they.count) in
    let few : length all ≤ 65535 = omega (arith, asked.few, they.count) in
    let b = answered_is_subset out tokens depth all again asked.deep some few e in
    (tables_keep_char_strings bytes out again tokens depth first all a they b, stays_from_then_on bytes tokens depth first all out again asked answered they e)
