use Rattle.std.proofs.Common.{List, ℕ, ◌++◌, ◌∷◌, [], ◌∙◌, refl, inr, ap, subst, sym, append_assoc}
use Rattle.subsetter_cffdata.specs.Indexes.IndexRest.{left}
use Rattle.subsetter_cffdata.specs.Dicts.Dict.{entries}
use Rattle.subsetter_cff.specs.Read.FdArray.FontDictFaults.{IsFontDictIn, HasFontDictFault}
use Rattle.subsetter_cff.specs.Read.FdArray.FontDictList.{HasFaultAmong}
use Rattle.subsetter_cff.proofs.ReadLaws.FdArrayLaws.FontDictLists.{one_more, still_sound, fault_here}
use Rattle.subsetter_cff.proofs.read.fd_array.font_dict_list.parse_font_dicts.Goals as goal

pub loop-dict-preserved : goal.loop-dict-preserved
loop-dict-preserved c =
    let before = c.loop-dict.invariant.before in
    let dict = c.in-Some.dict.now in
    let table = c.in_ok-offsets.ensures.ok in
    record {
      before = before ++ dict ∷ [];
      whole = append_assoc before (dict ∷ []) (left c.next.new.self) ∙ ap (λ (l : List (List ℕ)). before ++ l) (sym c.in-Some.ensures.steps) ∙ c.loop-dict.invariant.whole;
      made = rw c.in_ok-push.ensures.items (one_more c.args.table.now before c.loop-dict.font_dicts.items dict c.in-Some-parse_font_dict.font_dict c.loop-dict.invariant.made (subst (λ (l : List ℕ). IsFontDictIn l (entries dict) c.in-Some-parse_font_dict.font_dict) table c.in-Some-parse_font_dict.ensures.value));
      sound = still_sound c.args.table.now before dict c.loop-dict.invariant.sound (subst (λ (l : List ℕ). HasFontDictFault l (entries dict) → ⊥) table c.in-Some-parse_font_dict.ensures.sound);
    }

pub returns-in_default-clause-err : goal.returns-in_default-clause-err
returns-in_default-clause-err c =
    let before = c.loop-dict.invariant.before in
    let here = fault_here c.args.table.now before c.in-Some.dict.now (left c.next.new.self) (subst (λ (l : List ℕ). HasFontDictFault l (entries c.in-Some.dict.now)) c.in_ok-offsets.ensures.ok c.in_default.ensures.fault) in
    inr (refl, subst (HasFaultAmong c.args.table.now) (ap (λ (l : List (List ℕ)). before ++ l) (sym c.in-Some.ensures.steps) ∙ c.loop-dict.invariant.whole) here)
