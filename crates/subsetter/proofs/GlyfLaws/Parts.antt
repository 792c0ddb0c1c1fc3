-- An outline that was written under new numbers has the same parts under new numbers.
use Rattle.std.proofs.Common.{◌≡◌, ℕ, zero, suc, ◌+◌, ◌-◌, ◌%◌, ◌^◌, ◌<◌, ◌≤◌, Bool, true, false, cond, List, [], ◌∷◌, ◌++◌, length, drop, Option, Some, None, refl, sym, ap, subst, ◌∙◌, append_assoc, arith}
use Rattle.std.specs.Prelude.{map, replicate, not, bit_and, ◌==◌}
use Rattle.std.proofs.lemmas.Nat.{and_assoc, and_le_l}
use Rattle.std.specs.Option.{option_and_then}
use Rattle.std.specs.List.{flat_map}
use Rattle.std.specs.Int.{w16, to_be_bytes}
use Rattle.std.proofs.lemmas.List.{append-nil, drop_at, length-append}
use Rattle.subsetter_base.specs.Bytes.{range, number, IsBytes, has_flag}
use Rattle.subsetter_base.proofs.ByteLemmas.{be-u16, range-middle, number_at, IsBytes-drop, number-small}
use Rattle.subsetter_base.proofs.Options.{just, just_is, bind_some}
use Rattle.subsetter.specs.Glyf.Reaching.Unfold.{padded}
use Rattle.subsetter.specs.Glyf.BareOutlines.Bare.{requested_flags, requested_component}
use Rattle.subsetter.specs.Glyf.Parts.{Component, Chain, rest_size, has_more, has_instructions, component_at, with_component, last_component, chain_at, spelled}
use Rattle.subsetter.specs.Glyf.Plain.{renumbered_component}
use Rattle.subsetter_base.specs.Indexes.{new_index}
use Rattle.subsetter.proofs.GlyfLaws.Chains.{IsComponent, is_component, chain_none, chain_more, made}

-- ---- bytes

-- ---- padding

-- a front of even length is left as it is
pub padded-append : (long : Bool) (a b : List ℕ) → length a % 2 ≡ 0 → padded long (a ++ b) ≡ a ++ padded long b
padded-append true a b even = refl
padded-append false a b even =
    let same : (2 - length (a ++ b) % 2) % 2 ≡ (2 - length b % 2) % 2 = omega (arith, length-append a b) in
    ap (λ n. (a ++ b) ++ replicate n 0) same ∙ append_assoc a b (replicate ((2 - length b % 2) % 2) 0)

pub padded-nil : (long : Bool) → padded long [] ≡ []
padded-nil true = refl
padded-nil false = refl

-- the length of arguments and transform is even
even_sizes : (a b c d : Bool) → (cond a 4 2 + cond b 2 (cond c 4 (cond d 8 0))) % 2 ≡ 0
even_sizes true true c d = refl
even_sizes true false true d = refl
even_sizes true false false true = refl
even_sizes true false false false = refl
even_sizes false true c d = refl
even_sizes false false true d = refl
even_sizes false false false true = refl
even_sizes false false false false = refl

pub rest-even : (flags : ℕ) → rest_size flags % 2 ≡ 0
rest-even flags = even_sizes (has_flag flags 0x0001) (has_flag flags 0x0008) (has_flag flags 0x0040) (has_flag flags 0x0080)

-- ---- components that were read

pub data IsChain (tail : List ℕ) : List Component → Type 0 where
  last : (c : Component) → length c.rest ≡ rest_size c.flags → c.flags < 2 ^ 16 → has_more c.flags ≡ false → (has_instructions c.flags ≡ false → tail ≡ []) → IsChain tail (c ∷ [])
  more : (c : Component) (cs : List Component) → length c.rest ≡ rest_size c.flags → c.flags < 2 ^ 16 → has_more c.flags ≡ true → IsChain tail cs → IsChain tail (c ∷ cs)

abbrev ChainOf : Chain → Type 0
ChainOf chain = IsChain chain.tail chain.components

no_tail : (b : Bool) (after : List ℕ) → b ≡ false → cond b after [] ≡ []
no_tail true after h = absurd cc
no_tail false after h = refl

pub chain_is : (n : ℕ) (bytes : List ℕ) (chain : Chain) → IsBytes bytes → chain_at n bytes ≡ Some chain → IsChain chain.tail chain.components
unfolding chain_at
chain_is zero bytes chain fit h = absurd cc
chain_is (suc n) bytes chain fit h = by (λ rest whole r e. chain_is n rest whole r e) (component_at bytes) refl
  where
    into : ((rest : List ℕ) (whole : Chain) → IsBytes rest → chain_at n rest ≡ Some whole → IsChain whole.tail whole.components) → (c : Component) → IsComponent bytes c → (b : Bool) → has_more c.flags ≡ b
        → cond b (option_and_then (λ rest. Some (with_component c rest)) (chain_at n (drop (4 + rest_size c.flags) bytes))) (Some (last_component c (drop (4 + rest_size c.flags) bytes))) ≡ Some chain → IsChain chain.tail chain.components
    into again c is true m e =
        let k = bind_some (chain_at n (drop (4 + rest_size c.flags) bytes)) (λ rest. just (with_component c rest)) chain e in
        let same : with_component c k.0 ≡ chain = just_is (with_component c k.0) chain k.2 in
        subst ChainOf same (more c k.0.components is.size (number-small bytes 0 c.flags fit is.flags_is) m (again (drop (4 + rest_size c.flags) bytes) k.0 (IsBytes-drop (4 + rest_size c.flags) bytes fit) k.1))
    into again c is false m e =
        let same : last_component c (drop (4 + rest_size c.flags) bytes) ≡ chain = just_is (last_component c (drop (4 + rest_size c.flags) bytes)) chain e in
        subst ChainOf same (last c is.size (number-small bytes 0 c.flags fit is.flags_is) m (λ none. no_tail (has_instructions c.flags) (drop (4 + rest_size c.flags) bytes) none))

    by : ((rest : List ℕ) (whole : Chain) → IsBytes rest → chain_at n rest ≡ Some whole → IsChain whole.tail whole.components) → (o : Option Component) → component_at bytes ≡ o → IsChain chain.tail chain.components
    by again None k = let e = sym (chain_none (suc n) bytes k) ∙ h in absurd cc
    by again (Some c) k = into again c (is_component bytes c k) (has_more c.flags) refl (sym (chain_more n bytes c k) ∙ h)

-- ---- components without instructions

-- a flag that isn't that of instructions stays
flag_stays : (hint : Bool) (flags flag : ℕ) → bit_and 0xFEFF flag ≡ flag → has_flag (requested_flags hint flags) flag ≡ has_flag flags flag
flag_stays true flags flag e = refl
flag_stays false flags flag e = ap (λ (n : ℕ). not (n == 0)) (and_assoc flag flags 0xFEFF ∙ ap (bit_and flags) e)

size_stays : (hint : Bool) (flags : ℕ) → rest_size (requested_flags hint flags) ≡ rest_size flags
size_stays hint flags =
    ap (λ (a : Bool). cond a 4 2 + cond (has_flag (requested_flags hint flags) 0x0008) 2 (cond (has_flag (requested_flags hint flags) 0x0040) 4 (cond (has_flag (requested_flags hint flags) 0x0080) 8 0))) (flag_stays hint flags 0x0001 refl)
    ∙ ap (λ (a : Bool). cond (has_flag flags 0x0001) 4 2 + cond a 2 (cond (has_flag (requested_flags hint flags) 0x0040) 4 (cond (has_flag (requested_flags hint flags) 0x0080) 8 0))) (flag_stays hint flags 0x0008 refl)
    ∙ ap (λ (a : Bool). cond (has_flag flags 0x0001) 4 2 + cond (has_flag flags 0x0008) 2 (cond a 4 (cond (has_flag (requested_flags hint flags) 0x0080) 8 0))) (flag_stays hint flags 0x0040 refl)
    ∙ ap (λ (a : Bool). cond (has_flag flags 0x0001) 4 2 + cond (has_flag flags 0x0008) 2 (cond (has_flag flags 0x0040) 4 (cond a 8 0))) (flag_stays hint flags 0x0080 refl)

flags_small : (hint : Bool) (flags : ℕ) → flags < 2 ^ 16 → requested_flags hint flags < 2 ^ 16
flags_small true flags lt = lt
flags_small false flags lt = omega (arith, lt, and_le_l flags 0xFEFF)

pub bare_is : (tail : List ℕ) (cs : List Component) → IsChain tail cs → IsChain [] (map (requested_component false) cs)
bare_is tail [] h = elim h [ ]
bare_is tail (c ∷ []) (last _ len fit stop none) = last (requested_component false c) (len ∙ sym (size_stays false c.flags)) (flags_small false c.flags fit) (flag_stays false c.flags 0x0020 refl ∙ stop) (λ k. refl)
bare_is tail (c ∷ cs) (more _ _ len fit go h) = more (requested_component false c) (map (requested_component false) cs) (len ∙ sym (size_stays false c.flags)) (flags_small false c.flags fit) (flag_stays false c.flags 0x0020 refl ∙ go) (bare_is tail cs h)

-- ---- components that were written

pub length-spelled : (c : Component) → length (spelled c) ≡ 4 + length c.rest
length-spelled c = omega (arith, length-append (to_be_bytes w16 c.flags ++ to_be_bytes w16 c.glyph) c.rest)

pub component_back : (c : Component) (others : List ℕ) → c.flags < 2 ^ 16 → c.glyph < 2 ^ 16 → length c.rest ≡ rest_size c.flags → component_at (spelled c ++ others) ≡ Some c
component_back c others f g len =
    let F = to_be_bytes w16 c.flags in
    let G = to_be_bytes w16 c.glyph in
    let X = spelled c ++ others in
    let x : X ≡ F ++ (G ++ (c.rest ++ others)) = append_assoc (F ++ G) c.rest others ∙ append_assoc F G (c.rest ++ others) in
    let a : number X 0 2 ≡ Some c.flags = number_at X [] F (G ++ (c.rest ++ others)) 0 2 c.flags x refl refl (be-u16 c.flags f) in
    let b : number X 2 2 ≡ Some c.glyph = number_at X F G (c.rest ++ others) 2 2 c.glyph x refl refl (be-u16 c.glyph g) in
    let d : range X 4 (rest_size c.flags) ≡ Some c.rest = range-middle X (F ++ G) c.rest others 4 (rest_size c.flags) (append_assoc (F ++ G) c.rest others) refl (sym len) in
    ap (λ (o : Option ℕ). option_and_then (λ flags. option_and_then (λ glyph. option_and_then (λ rest. made flags glyph rest) (range X 4 (rest_size flags))) (number X 2 2)) o) a
    ∙ ap (λ (o : Option ℕ). option_and_then (λ glyph. option_and_then (λ rest. made c.flags glyph rest) (range X 4 (rest_size c.flags))) o) b
    ∙ ap (λ (o : Option (List ℕ)). option_and_then (λ rest. made c.flags c.glyph rest) o) d

following : (c : Component) (others : List ℕ) → length c.rest ≡ rest_size c.flags → drop (4 + rest_size c.flags) (spelled c ++ others) ≡ others
following c others len = drop_at (spelled c) others (4 + rest_size c.flags) (omega (arith, length-spelled c, len))

kept_tail : (b long : Bool) (tail : List ℕ) → (b ≡ false → tail ≡ []) → cond b (padded long tail) [] ≡ padded long tail
kept_tail true long tail h = refl
kept_tail false long tail h = sym (ap (padded long) (h refl) ∙ padded-nil long)

module _ (order : List ℕ) (small : (g : ℕ) → new_index order g < 2 ^ 16) where
  abbrev again : Component → Component
  again c = renumbered_component order c

  pub chain_back : (n : ℕ) (long : Bool) (tail : List ℕ) (cs : List Component) → IsChain tail cs → length cs ≤ n
      → chain_at n (flat_map spelled (map again cs) ++ padded long tail) ≡ Some (record { components = map again cs; tail = padded long tail })
  chain_back zero long tail [] h le = elim h [ ]
  chain_back (suc n) long tail [] h le = elim h [ ]
  chain_back zero long tail (c ∷ []) (last _ len fit stop none) le = absurd (omega arith)
  chain_back zero long tail (c ∷ cs) (more _ _ len fit go h) le = absurd (omega arith)
  chain_back (suc n) long tail (c ∷ []) (last _ len fit stop none) le =
      let T = padded long tail in
      let X = spelled (again c) ++ T in
      let whole : flat_map spelled (map again (c ∷ [])) ++ T ≡ X = ap (λ (l : List ℕ). l ++ T) (append-nil (spelled (again c))) in
      let read = component_back (again c) T fit (small c.glyph) len in
      let rest : drop (4 + rest_size c.flags) X ≡ T = following (again c) T len in
      let kept : last_component (again c) (drop (4 + rest_size c.flags) X) ≡ record { components = again c ∷ []; tail = T } =
      ap (λ (l : List ℕ). last_component (again c) l) rest ∙ ap (λ (l : List ℕ). record { components = again c ∷ []; tail = l }) (kept_tail (has_instructions c.flags) long tail none) in
      ap (chain_at (suc n)) whole ∙ chain_more n X (again c) read
      ∙ ap (λ b. cond b (option_and_then (λ chain. just (with_component (again c) chain)) (chain_at n (drop (4 + rest_size c.flags) X))) (Some (last_component (again c) (drop (4 + rest_size c.flags) X)))) stop
      ∙ ap just kept
  chain_back (suc n) long tail (c ∷ cs) (more _ _ len fit go h) le =
      let T = padded long tail in
      let R = flat_map spelled (map again cs) ++ T in
      let X = spelled (again c) ++ R in
      let whole : flat_map spelled (map again (c ∷ cs)) ++ T ≡ X = append_assoc (spelled (again c)) (flat_map spelled (map again cs)) T in
      let read = component_back (again c) R fit (small c.glyph) len in
      let rest : drop (4 + rest_size c.flags) X ≡ R = following (again c) R len in
      let below = chain_back n long tail cs h (omega arith) in
      ap (chain_at (suc n)) whole ∙ chain_more n X (again c) read
      ∙ ap (λ b. cond b (option_and_then (λ chain. just (with_component (again c) chain)) (chain_at n (drop (4 + rest_size c.flags) X))) (Some (last_component (again c) (drop (4 + rest_size c.flags) X)))) go
      ∙ ap (λ (l : List ℕ). option_and_then (λ chain. just (with_component (again c) chain)) (chain_at n l)) rest
      ∙ ap (λ (o : Option Chain). option_and_then (λ chain. just (with_component (again c) chain)) o) below

  pub chain-even : (tail : List ℕ) (cs : List Component) → IsChain tail cs → length (flat_map spelled (map again cs)) % 2 ≡ 0
  chain-even tail [] h = elim h [ ]
  chain-even tail (c ∷ []) (last _ len fit stop none) = omega (arith, length-append (spelled (again c)) [], length-spelled (again c), rest-even c.flags, len)
  chain-even tail (c ∷ cs) (more _ _ len fit go h) = omega (arith, length-append (spelled (again c)) (flat_map spelled (map again cs)), length-spelled (again c), rest-even c.flags, len, chain-even tail cs h)

  -- each component takes bytes
  pub chain-length : (tail : List ℕ) (cs : List Component) → IsChain tail cs → length cs ≤ length (flat_map spelled (map again cs))
  chain-length tail [] h = elim h [ ]
  chain-length tail (c ∷ []) (last _ len fit stop none) = omega (arith, length-append (spelled (again c)) [], length-spelled (again c))
  chain-length tail (c ∷ cs) (more _ _ len fit go h) = omega (arith, length-append (spelled (again c)) (flat_map spelled (map again cs)), length-spelled (again c), chain-length tail cs h)
