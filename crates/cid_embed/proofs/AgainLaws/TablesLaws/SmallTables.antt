-- `head` and `maxp` of a subset are answered as those of the first font.
use Rattle.std.proofs.Common.{◌≡◌, ℕ, ◌≤◌, ltb, Bool, true, false, cond, List, [], ◌∷◌, ◌++◌, length, take, drop, Option, Some, None, Ok, Err, refl, sym, ap, ◌∙◌, arith}
use Rattle.std.specs.Prelude.{slice_range}
use Rattle.std.specs.Option.{option_map}
use Rattle.std.specs.Int.{w16, w32, to_be_bytes}
use Rattle.std.proofs.lemmas.Bool.{ltb-false, le-ltb}
use Rattle.std.proofs.lemmas.List.{drop_at, length-append}
use Rattle.subsetter_base.specs.declared.error.Error.TheVariants.{MalformedFont}
use Rattle.subsetter_base.proofs.Results.{done_is}
use Rattle.subsetter_sfnt.specs.declared.flavor.FontFlavor.{FontFlavor}
use Rattle.subsetter_sfnt.specs.declared.flavor.FontFlavor.TheVariants.{TrueType, Cff}
use Rattle.subsetter_sfnt.specs.Laying.Written.{with_adjustment}
use Rattle.subsetter_sfnt.specs.Fields.Head.{format_bytes}
use Rattle.subsetter_sfnt.proofs.Laws.FieldsLaws.HeadLaws.{own_head}
use Rattle.subsetter.specs.Common.Head.Written.{head_bytes, head_in}
use Rattle.subsetter.specs.Common.Maxp.Read.{version_of, further_fields}
use Rattle.subsetter.specs.Common.Maxp.Written.{maxp_bytes, maxp_in}
use Rattle.subsetter.proofs.CommonLaws.HeadLaws.Back.{head_length, head_front, head_middle, head_end}

-- ---- head

-- the adjustment and the format that head was given don't count
head_twice : (w : ℕ) (long last : Bool) (head : List ℕ) → 52 ≤ length head → head_bytes last (with_adjustment w (head_bytes long head)) ≡ head_bytes last head
head_twice w long last head le =
    let C = with_adjustment w (head_bytes long head) in
    let Z : List ℕ = 0 ∷ 0 ∷ 0 ∷ 0 ∷ [] in
    let F = format_bytes last in
    own_head last C
    ∙ ap (λ (l : List ℕ). l ++ Z ++ slice_range C 12 50 ++ F ++ drop 52 C) (head_front w long head le)
    ∙ ap (λ (l : List ℕ). take 8 head ++ Z ++ l ++ F ++ drop 52 C) (head_middle w long head le)
    ∙ ap (λ (l : List ℕ). take 8 head ++ Z ++ slice_range head 12 50 ++ F ++ l) (head_end w long head le)
    ∙ sym (own_head last head)

pub head_again : (w : ℕ) (long last : Bool) (o middle : Option (List ℕ)) → head_in o long ≡ Ok middle → head_in (option_map (with_adjustment w) middle) last ≡ head_in o last
head_again w long last None middle h = ap (λ (x : Option (List ℕ)). head_in (option_map (with_adjustment w) x) last) (sym (done_is None middle h))
head_again w long last (Some head) middle h = by (ltb (length head) 52) refl h
  where
    by : (b : Bool) → ltb (length head) 52 ≡ b → cond b (Err MalformedFont) (Ok (Some (head_bytes long head))) ≡ Ok middle → head_in (option_map (with_adjustment w) middle) last ≡ head_in (Some head) last
    by true t k = absurd cc
    by false t k =
        let le = ltb-false _ _ t in
        let C = with_adjustment w (head_bytes long head) in
        ap (λ (x : Option (List ℕ)). head_in (option_map (with_adjustment w) x) last) (sym (done_is (Some (head_bytes long head)) middle k))
        ∙ ap (λ n. cond (ltb n 52) (Err MalformedFont) (Ok (Some (head_bytes last C)))) (head_length w long head le)
        ∙ ap (λ (l : List ℕ). cond (ltb (length head) 52) (Err MalformedFont) (Ok (Some l))) (head_twice w long last head le)

-- ---- maxp

further_twice : (flavor : FontFlavor) (n : ℕ) (maxp : List ℕ) → further_fields flavor (maxp_bytes flavor n maxp) ≡ further_fields flavor maxp
unfolding maxp_bytes
further_twice TrueType n maxp = drop_at (to_be_bytes w32 0x00010000 ++ to_be_bytes w16 n) (drop 6 maxp) 6 refl
further_twice Cff n maxp = refl

maxp_twice : (flavor : FontFlavor) (n k : ℕ) (maxp : List ℕ) → maxp_bytes flavor k (maxp_bytes flavor n maxp) ≡ maxp_bytes flavor k maxp
unfolding maxp_bytes
maxp_twice flavor n k maxp = ap (λ (l : List ℕ). to_be_bytes w32 (version_of flavor) ++ to_be_bytes w16 k ++ l) (further_twice flavor n maxp)

maxp_long : (flavor : FontFlavor) (n : ℕ) (maxp : List ℕ) → 6 ≤ length (maxp_bytes flavor n maxp)
unfolding maxp_bytes
maxp_long flavor n maxp = omega (arith, length-append (to_be_bytes w32 (version_of flavor) ++ to_be_bytes w16 n) (further_fields flavor maxp))

pub maxp_again : (flavor : FontFlavor) (n k : ℕ) (o middle : Option (List ℕ)) → maxp_in o flavor n ≡ Ok middle → maxp_in middle flavor k ≡ maxp_in o flavor k
maxp_again flavor n k None middle h = ap (λ (x : Option (List ℕ)). maxp_in x flavor k) (sym (done_is None middle h))
maxp_again flavor n k (Some maxp) middle h = by (ltb (length maxp) 6) refl h
  where
    by : (b : Bool) → ltb (length maxp) 6 ≡ b → cond b (Err MalformedFont) (Ok (Some (maxp_bytes flavor n maxp))) ≡ Ok middle → maxp_in middle flavor k ≡ maxp_in (Some maxp) flavor k
    by true t j = absurd cc
    by false t j =
        let new = maxp_bytes flavor n maxp in
        ap (λ (x : Option (List ℕ)). maxp_in x flavor k) (sym (done_is (Some new) middle j))
        ∙ ap (λ b. cond b (Err MalformedFont) (Ok (Some (maxp_bytes flavor k new)))) (le-ltb _ _ (maxp_long flavor n maxp))
        ∙ ap (λ (l : List ℕ). Ok (Some l)) (maxp_twice flavor n k maxp)
        ∙ sym (ap (λ b. cond b (Err MalformedFont) (Ok (Some (maxp_bytes flavor k maxp)))) t)
