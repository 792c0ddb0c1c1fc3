use Rattle.std.proofs.Common.{◌≡◌, ◌+◌, ◌∷◌, [], ◌++◌, false, cond, leb, ◌&&◌, Some, length, ap, sym, ◌∙◌, List, ℕ, arith}
use Rattle.std.specs.HashMap.{get}
use Rattle.std.specs.Str.{bytes_eq}
use Rattle.std.specs.Borrow.{Bor}
use Rattle.std.proofs.lemmas.Slice.{pushed}
use Rattle.std.proofs.lemmas.List.{length-map}
use Rattle.subsetter.specs.Common.Name.Read.{among, joined}
use Rattle.subsetter.specs.Common.Name.View.{nows}
use Rattle.subsetter.proofs.CommonLaws.NameLaws.Written.{nows-push, joined-push, far_more}
use Rattle.subsetter.proofs.common.name.Strings.add.Goals as goal

pub invariant_of-self-2 : goal.invariant_of-self-2
invariant_of-self-2 c =
    let bs = c.self.inside.strings.items in
    let ts = nows bs in
    let s = c.args.string.now in
    let absent : among ts s ≡ false = ap (λ (l : List (List ℕ)). among l s) c.self.view_is ∙ c.requires.new in
    let place : c.args.place ≡ length (joined ts) = c.requires.offset ∙ ap (λ (l : List (List ℕ)). length (joined l)) (sym c.self.view_is) in
    let count : c.len.result ≡ length ts = omega (arith, c.len.ensures, ap length c.reserve.ensures.items, length-map bs (λ (b : Bor (List ℕ)). b.now)) in
    let now : nows c.push.new.self.items ≡ ts ++ s ∷ [] = ap nows (pushed (c.args.string ∷ []) c.reserve.ensures.items c.unwrap.ensures c.push.ensures.items) ∙ nows-push bs c.args.string in
    rw now (record {
      hashed_are = λ q h. far_more ts s q c.args.place (get bytes_eq c.self.inside.hashed q) (get bytes_eq c.remember_hashed.new.hashed q) absent place
          (c.in_ok-remember_hashed.ensures.ok q ∙ ap (λ (n : ℕ). cond (leb 32 n && bytes_eq s q) (Some c.args.place) (get bytes_eq c.self.inside.hashed q)) count) (c.self.invariant.hashed_are q) h;
      size_is = ap (λ (n : ℕ). n + length s) c.self.invariant.size_is ∙ sym (joined-push ts s);
      fits = omega arith;
    })
