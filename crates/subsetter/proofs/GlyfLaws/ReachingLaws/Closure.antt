-- The glyphs that a list reaches, while they are found.
use Rattle.std.proofs.Common.{◌≡◌, ℕ, zero, suc, ◌+◌, ◌-◌, ◌*◌, ◌^◌, ◌<◌, ◌≤◌, Bool, true, false, cond, List, [], ◌∷◌, ◌++◌, length, Option, Some, None, refl, sym, ap, subst, ◌∙◌, ◌⊎◌, inl, inr, append_assoc, arith}
use Rattle.std.specs.Prelude.{Contains, IfSome, is_some, map, not, nat_le}
use Rattle.std.specs.Borrow.{Bor}
use Rattle.std.specs.Option.{option_copied}
use Rattle.std.proofs.lemmas.Bool.{leb-false}
use Rattle.std.proofs.lemmas.List.{append-nil, length_push, length-append}
use Rattle.std.proofs.lemmas.List.Elements.{Contains-append_left, Contains-append_right, Contains-append_cases, Contains-push, Contains-push_cases}
use Rattle.subsetter_base.specs.Indexes.{index_of, with_glyph, IsWithoutRepeats}
use Rattle.subsetter_base.proofs.IndexLemmas.{IsWithoutRepeats-push}
use Rattle.subsetter_base.proofs.GlyphLemmas.{index-Contains, length-le_small, small-push}
use Rattle.subsetter.specs.Glyf.Read.{Outlines, outline_in}
use Rattle.subsetter.specs.Glyf.Parts.{component_numbers}
use Rattle.subsetter.specs.Glyf.Reaching.Reach.{IsReachableBy, given, step, IsGlyphOrderBy}
use Rattle.subsetter_base.specs.declared.error.Error.{Error}
use Rattle.subsetter_base.specs.declared.error.Error.TheVariants.{OutOfMemory, MalformedFont, OverflowError}
use Rattle.subsetter_base.proofs.Lists.{Contains-later}
use Rattle.subsetter_base.proofs.Options.{none_of}
use Rattle.subsetter.proofs.GlyfLaws.Components.{components_few, components_simple}
use Rattle.subsetter.specs.Glyf.Reaching.Closure.{first_byte_in, AreFound, components_in, others_in, IsFaulty, IsFull, IsVisited, StopsClosure, no_memory, faulty_glyph, all_reached}

-- ---- members of a list

pub no_member : (x : ℕ) → Contains {X = ℕ} [] x → ⊥
no_member x c = omega (arith, c.1)

pub cons_cases : (x h : ℕ) (xs : List ℕ) → Contains (x ∷ xs) h → (x ≡ h) ⊎ Contains xs h
cons_cases x h xs (zero, lt, is) = inl is
cons_cases x h xs (suc k, lt, is) = inr (k, omega arith, is)

pub here : (x h : ℕ) (xs : List ℕ) → x ≡ h → Contains (x ∷ xs) h
here x h xs is = (0, omega arith, is)

-- the numbers that aren't in the order are among the numbers
pub others_are : (order ns : List ℕ) (h : ℕ) → Contains (others_in order ns) h → Contains ns h
others_are order [] h c = c
others_are order (n ∷ ns) h c = by (λ d. others_are order ns h d) (is_some (index_of order n)) c
  where
    by : (Contains (others_in order ns) h → Contains ns h) → (b : Bool) → Contains (cond (not b) (n ∷ others_in order ns) (others_in order ns)) h → Contains (n ∷ ns) h
    by again true d = Contains-later n h ns (again d)
    by again false d = elim (cons_cases n h (others_in order ns) d) [ inl is ↦ here n h ns is | inr later ↦ Contains-later n h ns (again later) ]

-- each number is in the order or among the others
pub others_have : (order ns : List ℕ) (h : ℕ) → Contains ns h → Contains order h ⊎ Contains (others_in order ns) h
others_have order [] h c = inr c
others_have order (n ∷ ns) h c = by (λ d. others_have order ns h d) (is_some (index_of order n)) refl
  where
    by : (Contains ns h → Contains order h ⊎ Contains (others_in order ns) h) → (b : Bool) → is_some (index_of order n) ≡ b → Contains order h ⊎ Contains (cond (not b) (n ∷ others_in order ns) (others_in order ns)) h
    by again true known = elim (cons_cases n h ns c) [ inl is ↦ inl (subst (Contains order) is (index-Contains order n known)) | inr later ↦ again later ]
    by again false known = elim (cons_cases n h ns c) [
      | inl is ↦ inr (here n h (others_in order ns) is)
      | inr later ↦ elim (again later) [ inl d ↦ inl d | inr d ↦ inr (Contains-later n h (others_in order ns) d) ]
    ]

-- ---- the walk

module _ (t : Outlines) (glyphs : List ℕ) where
  abbrev pub Reached : ℕ → Type 0
  Reached g = IsReachableBy (outline_in t) glyphs g

  pub reach_more : (g h : ℕ) → Reached g → Contains (components_in (outline_in t g)) h → Reached h
  reach_more g h r c = by (outline_in t g) refl c
    where
      by : (o : Option (List ℕ)) → outline_in t g ≡ o → Contains (components_in o) h → Reached h
      by None e d = absurd (no_member h d)
      by (Some bytes) e d = step g h bytes r e d

-- the order so far, with the given glyphs that are still to be followed and the components that wait
pub record Follows (t : Outlines) (glyphs left waiting order : List ℕ) : Type 0 where
  pub others : List ℕ
  pub begins : order ≡ glyphs ++ others
  pub once : IsWithoutRepeats order
  pub room : length order < 65536
  pub are_given : (g : ℕ) → Contains left g → Contains glyphs g
  pub reached : (g : ℕ) → Contains order g → Reached t glyphs g
  pub waits : (g : ℕ) → Contains waiting g → Reached t glyphs g
  pub closed : (g h : ℕ) → Contains order g → Contains (components_in (outline_in t g)) h → Contains left g ⊎ (Contains order h ⊎ Contains waiting h)

-- the first bytes of outlines that were looked up
pub heads_of : (t : Outlines) (glyphs : List ℕ) (found : List (Option (Bor (List ℕ)))) → AreFound t glyphs found → map (λ o. first_byte_in (option_copied o)) found ≡ map (λ g. first_byte_in (outline_in t g)) glyphs
heads_of t glyphs found is = apart found ∙ ap (map first_byte_in) is ∙ joined glyphs
  where
    apart : (os : List (Option (Bor (List ℕ)))) → map (λ o. first_byte_in (option_copied o)) os ≡ map first_byte_in (map option_copied os)
    apart [] = refl
    apart (o ∷ os) = ap (λ (l : List ℕ). first_byte_in (option_copied o) ∷ l) (apart os)

    joined : (gs : List ℕ) → map first_byte_in (map (outline_in t) gs) ≡ map (λ g. first_byte_in (outline_in t g)) gs
    joined [] = refl
    joined (g ∷ gs) = ap (λ (l : List ℕ). first_byte_in (outline_in t g) ∷ l) (joined gs)

pub begin : (t : Outlines) (glyphs : List ℕ) → IsWithoutRepeats glyphs → length glyphs < 65536 → Follows t glyphs glyphs [] glyphs
begin t glyphs once room = record {
  others = [];
  begins = sym (append-nil glyphs);
  once = once;
  room = room;
  are_given = λ g c. c;
  reached = λ g c. given g c;
  waits = λ g c. absurd (no_member g c);
  closed = λ g h at c. inl at;
}

-- a given glyph was followed
pub follow : (t : Outlines) (glyphs left waiting order : List ℕ) (g : ℕ) (after : List ℕ) → after ≡ waiting ++ others_in order (components_in (outline_in t g)) → Follows t glyphs (left ++ g ∷ []) waiting order → Follows t glyphs left after order
follow t glyphs left waiting order g after is f =
    let new = others_in order (components_in (outline_in t g)) in
    let given_g : Reached t glyphs g = given g (f.are_given g (Contains-push left g)) in
    subst (λ (w : List ℕ). Follows t glyphs left w order) (sym is) (record {
      others = f.others;
      begins = f.begins;
      once = f.once;
      room = f.room;
      are_given = λ q c. f.are_given q (Contains-append_left left (g ∷ []) q c);
      reached = f.reached;
      waits = λ q c. elim (Contains-append_cases waiting new q c) [ inl d ↦ f.waits q d | inr d ↦ reach_more t glyphs g q given_g (others_are order (components_in (outline_in t g)) q d) ];
      closed = λ q h at c. elim (f.closed q h at c) [
        | inl k ↦ elim (Contains-push_cases left g q k) [
          | inl l ↦ inl l
          | inr e ↦ elim (others_have order (components_in (outline_in t g)) h (subst (λ (n : ℕ). Contains (components_in (outline_in t n)) h) (sym e) c)) [ inl d ↦ inr (inl d) | inr d ↦ inr (inr (Contains-append_right waiting new h d)) ]
        ]
        | inr k ↦ elim k [ inl d ↦ inr (inl d) | inr d ↦ inr (inr (Contains-append_left waiting new h d)) ]
      ];
    })

-- a glyph that waited was taken, and was there already
known_glyph : (t : Outlines) (glyphs left waiting order : List ℕ) (g : ℕ) → is_some (index_of order g) ≡ true → Follows t glyphs left (waiting ++ g ∷ []) order → Follows t glyphs left waiting order
known_glyph t glyphs left waiting order g known f = record {
  others = f.others;
  begins = f.begins;
  once = f.once;
  room = f.room;
  are_given = f.are_given;
  reached = f.reached;
  waits = λ q c. f.waits q (Contains-append_left waiting (g ∷ []) q c);
  closed = λ q h at c. elim (f.closed q h at c) [
    | inl k ↦ inl k
    | inr k ↦ elim k [
      | inl d ↦ inr (inl d)
      | inr d ↦ elim (Contains-push_cases waiting g h d) [ inl w ↦ inr (inr w) | inr e ↦ inr (inl (subst (Contains order) e (index-Contains order g known))) ]
    ]
  ];
}

-- a glyph that waited was taken, and went last
new_glyph : (t : Outlines) (glyphs left waiting order : List ℕ) (g : ℕ) → is_some (index_of order g) ≡ false → length (order ++ g ∷ []) < 65536 → Follows t glyphs left (waiting ++ g ∷ []) order
    → Follows t glyphs left (waiting ++ others_in (order ++ g ∷ []) (components_in (outline_in t g))) (order ++ g ∷ [])
new_glyph t glyphs left waiting order g absent room f =
    let longer = order ++ g ∷ [] in
    let new = others_in longer (components_in (outline_in t g)) in
    let waited : Reached t glyphs g = f.waits g (Contains-push waiting g) in
    record {
      others = f.others ++ g ∷ [];
      begins = ap (λ (l : List ℕ). l ++ g ∷ []) f.begins ∙ append_assoc glyphs f.others (g ∷ []);
      once = IsWithoutRepeats-push order g (none_of (index_of order g) absent) f.once;
      room = room;
      are_given = f.are_given;
      reached = λ q c. elim (Contains-push_cases order g q c) [ inl d ↦ f.reached q d | inr e ↦ subst (Reached t glyphs) e waited ];
      waits = λ q c. elim (Contains-append_cases waiting new q c) [
        | inl d ↦ f.waits q (Contains-append_left waiting (g ∷ []) q d)
        | inr d ↦ reach_more t glyphs g q waited (others_are longer (components_in (outline_in t g)) q d)
      ];
      closed = λ q h at c. elim (Contains-push_cases order g q at) [
        | inl old ↦ elim (f.closed q h old c) [
          | inl k ↦ inl k
          | inr k ↦ elim k [
            | inl d ↦ inr (inl (Contains-append_left order (g ∷ []) h d))
            | inr d ↦ elim (Contains-push_cases waiting g h d) [ inl w ↦ inr (inr (Contains-append_left waiting new h w)) | inr e ↦ inr (inl (subst (Contains longer) e (Contains-push order g))) ]
          ]
        ]
        | inr e ↦ elim (others_have longer (components_in (outline_in t g)) h (subst (λ (n : ℕ). Contains (components_in (outline_in t n)) h) (sym e) c)) [ inl d ↦ inr (inl d) | inr d ↦ inr (inr (Contains-append_right waiting new h d)) ]
      ];
    }

pub visited : (t : Outlines) (glyphs left waiting order : List ℕ) (g : ℕ) (order_after after : List ℕ) → IsVisited t order waiting g order_after after → Follows t glyphs left (waiting ++ g ∷ []) order → Follows t glyphs left after order_after
visited t glyphs left waiting order g order_after after v f = by (is_some (index_of order g)) refl v.is_last v.wait
  where
    by : (b : Bool) → is_some (index_of order g) ≡ b → order_after ≡ cond b order (order ++ g ∷ []) → after ≡ cond b waiting (waiting ++ others_in order_after (components_in (outline_in t g))) → Follows t glyphs left after order_after
    by true known o w = subst (λ (l : List ℕ). Follows t glyphs left after l) (sym o) (subst (λ (l : List ℕ). Follows t glyphs left l order) (sym w) (known_glyph t glyphs left waiting order g known f))
    by false known o w =
        let same : after ≡ waiting ++ others_in (order ++ g ∷ []) (components_in (outline_in t g)) = w ∙ ap (λ (l : List ℕ). waiting ++ others_in l (components_in (outline_in t g))) o in
        subst (λ (l : List ℕ). Follows t glyphs left after l) (sym o) (subst (λ (l : List ℕ). Follows t glyphs left l (order ++ g ∷ [])) (sym same) (new_glyph t glyphs left waiting order g known (subst (λ (l : List ℕ). length l < 65536) o v.room) f))

-- each visit takes from the numbers that are left, or from those that wait
pub fewer : (t : Outlines) (waiting order : List ℕ) (g : ℕ) (order_after after : List ℕ) → IsVisited t order waiting g order_after after → (65536 - length order_after) * 2 ^ 40 + length after < (65536 - length order) * 2 ^ 40 + (length waiting + 1)
fewer t waiting order g order_after after v = by (is_some (index_of order g)) v.is_last v.wait
  where
    by : (b : Bool) → order_after ≡ cond b order (order ++ g ∷ []) → after ≡ cond b waiting (waiting ++ others_in order_after (components_in (outline_in t g))) → (65536 - length order_after) * 2 ^ 40 + length after < (65536 - length order) * 2 ^ 40 + (length waiting + 1)
    by true o w = omega (arith, ap length o, ap length w)
    by false o w = omega (arith, ap length o, length_push order g, v.few, v.room)

-- nothing waits
pub finish : (t : Outlines) (glyphs order : List ℕ) → Follows t glyphs [] [] order → IsGlyphOrderBy (outline_in t) glyphs order
finish t glyphs order f = record {
  others = f.others;
  begins = f.begins;
  once = f.once;
  members = λ g. (f.reached g, holds g);
}
  where
    next : (g h : ℕ) → Contains order g → Contains (components_in (outline_in t g)) h → Contains order h
    next g h at c = elim (f.closed g h at c) [
      | inl k ↦ absurd (no_member g k)
      | inr k ↦ elim k [ inl d ↦ d | inr d ↦ absurd (no_member h d) ]
    ]

    holds : (g : ℕ) → Reached t glyphs g → Contains order g
    holds g (given q c) = subst (λ (l : List ℕ). Contains l g) (sym f.begins) (Contains-append_left glyphs f.others g c)
    holds h (step g q bytes r e c) = next g h (holds g r) (subst (λ (o : Option (List ℕ)). Contains (components_in o) h) (sym e) c)

-- a full order and a further glyph are all numbers
pub all_numbers : (order : List ℕ) (g : ℕ) → IsWithoutRepeats order → IsFull order g → (q : ℕ) → q < 65536 → Contains (order ++ g ∷ []) q
all_numbers order g once full q lt = by (is_some (index_of (order ++ g ∷ []) q)) refl
  where
    by : (b : Bool) → is_some (index_of (order ++ g ∷ []) q) ≡ b → Contains (order ++ g ∷ []) q
    by true known = index-Contains (order ++ g ∷ []) q known
    by false absent =
        let once_more = IsWithoutRepeats-push order g full.further once in
        let all_once = IsWithoutRepeats-push (order ++ g ∷ []) q (none_of (index_of (order ++ g ∷ []) q) absent) once_more in
        let all_small = small-push 65536 (order ++ g ∷ []) q (small-push 65536 order g full.small full.fits) lt in
        absurd (omega (arith, full.full, length_push order g, length_push (order ++ g ∷ []) q, length-le_small 65536 ((order ++ g ∷ []) ++ q ∷ []) all_once all_small))

pub overflows : (t : Outlines) (glyphs left waiting order : List ℕ) (g : ℕ) → IsFull order g → Follows t glyphs left (waiting ++ g ∷ []) order → (q : ℕ) → q < 65536 → Reached t glyphs q
overflows t glyphs left waiting order g full f q lt =
    elim (Contains-push_cases order g q (all_numbers order g f.once full q lt)) [
      | inl d ↦ f.reached q d
      | inr e ↦ subst (Reached t glyphs) e (f.waits g (Contains-push waiting g))
    ]

-- ---- the steps, as the code takes them

pub start : (t : Outlines) (glyphs left order : List ℕ) → left ≡ glyphs → order ≡ glyphs → IsWithoutRepeats glyphs → length glyphs < 65536 → Follows t glyphs left [] order
start t glyphs left order a b once room = subst (λ (l : List ℕ). Follows t glyphs l [] order) (sym a) (subst (λ (l : List ℕ). Follows t glyphs glyphs [] l) (sym b) (begin t glyphs once room))

pub followed : (t : Outlines) (glyphs before left waiting order : List ℕ) (g : ℕ) (after : List ℕ) → before ≡ left ++ g ∷ [] → waiting ≡ [] → after ≡ waiting ++ others_in order (components_in (outline_in t g)) → Follows t glyphs before [] order → Follows t glyphs left after order
followed t glyphs before left waiting order g after e none is f =
    follow t glyphs left [] order g after (is ∙ ap (λ (l : List ℕ). l ++ others_in order (components_in (outline_in t g))) none) (subst (λ (l : List ℕ). Follows t glyphs l [] order) e f)

pub visited_next : (t : Outlines) (glyphs left before waiting order : List ℕ) (g : ℕ) (order_after after : List ℕ) → before ≡ waiting ++ g ∷ [] → IsVisited t order waiting g order_after after → Follows t glyphs left before order → Follows t glyphs left after order_after
visited_next t glyphs left before waiting order g order_after after e v f = visited t glyphs left waiting order g order_after after v (subst (λ (l : List ℕ). Follows t glyphs left l order) e f)

pub finished : (t : Outlines) (glyphs left order : List ℕ) → left ≡ [] → Follows t glyphs left [] order → IsGlyphOrderBy (outline_in t) glyphs order
finished t glyphs left order none f = finish t glyphs order (subst (λ (l : List ℕ). Follows t glyphs l [] order) none f)

pub stops_memory : (most : ℕ) (t : Outlines) (glyphs : List ℕ) (e : Error) → e ≡ OutOfMemory → StopsClosure t glyphs most e
stops_memory most t glyphs e is = subst (StopsClosure t glyphs most) (sym is) no_memory

pub stops_faulty : (most : ℕ) (t : Outlines) (glyphs : List ℕ) (g : ℕ) (e : Error) → Reached t glyphs g → (e ≡ OutOfMemory) ⊎ ((e ≡ MalformedFont) × IsFaulty t g) → StopsClosure t glyphs most e
stops_faulty most t glyphs g e r h = elim h [ inl is ↦ stops_memory most t glyphs e is | inr k ↦ subst (StopsClosure t glyphs most) (sym k.0) (faulty_glyph g r k.1) ]

pub stops_given : (most : ℕ) (t : Outlines) (glyphs before left order : List ℕ) (g : ℕ) (e : Error) → before ≡ left ++ g ∷ [] → Follows t glyphs before [] order → (e ≡ OutOfMemory) ⊎ ((e ≡ MalformedFont) × IsFaulty t g) → StopsClosure t glyphs most e
stops_given most t glyphs before left order g e is f h = stops_faulty most t glyphs g e (given g (f.are_given g (subst (λ (l : List ℕ). Contains l g) (sym is) (Contains-push left g)))) h

pub stops_visit : (most : ℕ) (t : Outlines) (glyphs left before waiting order : List ℕ) (g : ℕ) (e : Error) → before ≡ waiting ++ g ∷ [] → Follows t glyphs left before order → (e ≡ OutOfMemory) ⊎ (((e ≡ MalformedFont) × IsFaulty t g) ⊎ ((e ≡ OverflowError) × IsFull order g)) → StopsClosure t glyphs most e
stops_visit most t glyphs left before waiting order g e is f h =
    let waited : Reached t glyphs g = f.waits g (subst (λ (l : List ℕ). Contains l g) (sym is) (Contains-push waiting g)) in
    elim h [
      | inl a ↦ stops_memory most t glyphs e a
      | inr b ↦ elim b [
        | inl k ↦ stops_faulty most t glyphs g e waited (inr k)
        | inr k ↦ subst (StopsClosure t glyphs most) (sym k.0) (all_reached (overflows t glyphs left waiting order g k.1 (subst (λ (l : List ℕ). Follows t glyphs left l order) is f)))
      ]
    ]

-- glyphs that are taken are reached
pub given_reached : (t : Outlines) (glyphs before left waiting order : List ℕ) (g : ℕ) → before ≡ left ++ g ∷ [] → Follows t glyphs before waiting order → Reached t glyphs g
given_reached t glyphs before left waiting order g is f = given g (f.are_given g (subst (λ (l : List ℕ). Contains l g) (sym is) (Contains-push left g)))

pub waits_reached : (t : Outlines) (glyphs left before waiting order : List ℕ) (g : ℕ) → before ≡ waiting ++ g ∷ [] → Follows t glyphs left before order → Reached t glyphs g
waits_reached t glyphs left before waiting order g is f = f.waits g (subst (λ (l : List ℕ). Contains l g) (sym is) (Contains-push waiting g))

-- at most as many wait as the outline has bytes
others_few : (order ns : List ℕ) → length (others_in order ns) ≤ length ns
others_few order [] = omega arith
others_few order (n ∷ ns) = elim (is_some (index_of order n)) as (λ b. length (cond (not b) (n ∷ others_in order ns) (others_in order ns)) ≤ length (n ∷ ns)) [ true ↦ omega (arith, others_few order ns) | false ↦ omega (arith, others_few order ns) ]

pub few_more : (before order bytes : List ℕ) (o : Option (List ℕ)) → Some bytes ≡ o → length bytes < 2 ^ 32 → length (before ++ others_in order (components_in o)) < length before + 2 ^ 32
few_more before order bytes o e lt =
    let same : length (components_in o) ≡ length (component_numbers bytes) = ap (λ (p : Option (List ℕ)). length (components_in p)) (sym e) in
    omega (arith, length-append before (others_in order (components_in o)), others_few order (components_in o), same, components_few bytes, lt)

pub few_found : (before order : List ℕ) (o : Option (Bor (List ℕ))) → IfSome o (λ b. length b.now < 2 ^ 32) → length (before ++ others_in order (components_in (option_copied o))) < length before + 2 ^ 32
few_found before order None small = omega (arith, length-append before [])
few_found before order (Some b) small = few_more before order b.now (Some b.now) refl small

-- an outline that doesn't begin as a composite has no components
simple_parts : (o : Option (List ℕ)) → nat_le 128 (first_byte_in o) ≡ false → components_in o ≡ []
simple_parts None e = refl
simple_parts (Some []) e = components_simple [] (omega arith)
simple_parts (Some (a ∷ [])) e = absurd cc
simple_parts (Some (a ∷ b ∷ bytes)) e = components_simple (a ∷ b ∷ bytes) (leb-false 128 a e)

pub none_wait : (waiting order : List ℕ) (o : Option (List ℕ)) (first : ℕ) → first ≡ first_byte_in o → nat_le 128 first ≡ false → waiting ≡ waiting ++ others_in order (components_in o)
none_wait waiting order o first is low =
    sym (append-nil waiting) ∙ ap (λ (l : List ℕ). waiting ++ others_in order l) (sym (simple_parts o (sym (ap (nat_le 128) is) ∙ low)))

pub room_left : (order after : List ℕ) (g : ℕ) → after ≡ with_glyph order g → length order < 65535 → length after < 65536
room_left order after g is lt = omega (arith, ap length is, by (is_some (index_of order g)))
  where
    by : (b : Bool) → length (cond b order (order ++ g ∷ [])) ≤ length order + 1
    by true = omega arith
    by false = omega (arith, length_push order g)

-- a glyph that wasn't there went last
pub gone_last : (order after : List ℕ) (g : ℕ) → index_of order g ≡ None → after ≡ with_glyph order g → after ≡ order ++ g ∷ []
gone_last order after g absent is = is ∙ ap (λ (o : Option ℕ). cond (is_some o) order (order ++ g ∷ [])) absent
