-- Values and members that are written are read again.
use Rattle.std.proofs.Common.{◌≡◌, ℕ, zero, suc, ◌<◌, ◌⊎◌, inl, inr, true, List, [], ◌∷◌, ◌++◌, length, Option, Some, None, Result, Ok, Err, refl, sym, ap, subst, ◌∙◌, append_assoc, arith, codes}
use Rattle.std.specs.Str.{is_utf8}
use Rattle.std.proofs.lemmas.Bool.{and_parts}
use Rattle.subset_batch.specs.declared.fault.Wanted.{Wanted}
use Rattle.subset_batch.specs.declared.fault.Wanted.TheVariants.{Item, Value as AnyValue, CommaOrBracket, CommaOrBrace}
use Rattle.subset_batch.specs.declared.kinds.Kind.{Kind}
use Rattle.subset_batch.specs.Bytes.{skip_ws}
use Rattle.subset_batch.specs.Members.{Value, absent, present, text, texts, Member, repeated}
use Rattle.subset_batch.specs.Words.{request_words}
use Rattle.subset_batch.specs.Reading.{Fault, unknown, with_front, many, item_at, item_step, items_in, literal, value_at, name_at, fitting_at, member_at, member_step, members_in, distinct, object_of, request_in, request_of}
use Rattle.subset_batch.specs.Written.{escaped_text, quoted, strings, written_value, written_members, written, all_utf8, value_utf8, IsWritable, AllWritable, AreWritable}
use Rattle.subset_batch.proofs.Again.{longer, string_back}

-- ---- strings and arrays

quoted_back : (t rest : List ℕ) → quoted t ++ rest ≡ 34 ∷ (escaped_text t ++ 34 ∷ rest)
quoted_back t rest = ap (λ (x : List ℕ). 34 ∷ x) (append_assoc (escaped_text t) (34 ∷ []) rest)

item_back : (wanted : Wanted) (t rest : List ℕ) → is_utf8 t ≡ true → item_at wanted (quoted t ++ rest) ≡ Ok (t, rest)
item_back wanted t rest h = ap (item_at wanted) (quoted_back t rest) ∙ string_back t rest h

last_item : (t rest : List ℕ) (n : ℕ) → is_utf8 t ≡ true → many item_step CommaOrBracket (suc n) (quoted t ++ 93 ∷ rest) ≡ Ok (t ∷ [], rest)
unfolding many item_step
last_item t rest n h = rw (item_back Item t (93 ∷ rest) h) refl

more_items : (t bytes : List ℕ) (n : ℕ) → is_utf8 t ≡ true → skip_ws bytes ≡ bytes → many item_step CommaOrBracket (suc n) (quoted t ++ 44 ∷ bytes) ≡ with_front (t ∷ []) (many item_step CommaOrBracket n bytes)
unfolding many item_step
more_items t bytes n h no_ws = rw (item_back Item t (44 ∷ bytes) h, no_ws) refl

-- the strings of an array, and what closes it
first_string : (t : List ℕ) (ts : List (List ℕ)) (rest : List ℕ) → strings [] (t ∷ ts) ++ rest ≡ quoted t ++ (strings (codes ",") ts ++ rest)
first_string t ts rest = append_assoc (quoted t) (strings (codes ",") ts) rest

further_strings : (t : List ℕ) (ts : List (List ℕ)) (rest : List ℕ) → strings (codes ",") (t ∷ ts) ++ rest ≡ 44 ∷ (strings [] (t ∷ ts) ++ rest)
further_strings t ts rest = refl

no_ws_strings : (t : List ℕ) (ts : List (List ℕ)) (rest : List ℕ) → skip_ws (strings [] (t ∷ ts) ++ rest) ≡ strings [] (t ∷ ts) ++ rest
no_ws_strings t ts rest = refl

items_back : (ts : List (List ℕ)) (t : List ℕ) (n : ℕ) (rest : List ℕ) → length ts < n → is_utf8 t ≡ true → all_utf8 ts ≡ true → many item_step CommaOrBracket n (strings [] (t ∷ ts) ++ 93 ∷ rest) ≡ Ok (t ∷ ts, rest)
items_back ts t zero rest less h hs = absurd (omega arith)
items_back [] t (suc n) rest less h hs = ap (many item_step CommaOrBracket (suc n)) (first_string t [] (93 ∷ rest)) ∙ last_item t rest n h
items_back (u ∷ us) t (suc n) rest less h hs =
    let p = and_parts (is_utf8 u) (all_utf8 us) hs in
    let tail = strings [] (u ∷ us) ++ 93 ∷ rest in
    let others : many item_step CommaOrBracket n tail ≡ Ok (u ∷ us, rest) = items_back us u n rest (omega arith) p.0 p.1 in
    ap (many item_step CommaOrBracket (suc n)) (first_string t (u ∷ us) (93 ∷ rest)) ∙ more_items t tail n h (no_ws_strings u us (93 ∷ rest)) ∙ ap (with_front (t ∷ [])) others

-- at least a byte for each string, and one more
enough_items : (ts : List (List ℕ)) (before rest : List ℕ) → length ts < length (strings before ts ++ 93 ∷ rest)
enough_items [] before rest = omega arith
enough_items (t ∷ ts) before rest =
    let tail = strings (codes ",") ts ++ 93 ∷ rest in
    let whole : strings before (t ∷ ts) ++ 93 ∷ rest ≡ before ++ (quoted t ++ tail) = append_assoc (before ++ quoted t) (strings (codes ",") ts) (93 ∷ rest) ∙ append_assoc before (quoted t) tail in
    omega (arith, enough_items ts (codes ",") rest, ap length whole, longer before (quoted t ++ tail), ap length (quoted_back t tail), longer (escaped_text t) (34 ∷ tail))

array_back : (ts : List (List ℕ)) (rest : List ℕ) → all_utf8 ts ≡ true → items_in (strings [] ts ++ 93 ∷ rest) ≡ Ok (ts, rest)
array_back [] rest h = refl
array_back (t ∷ ts) rest h =
    let p = and_parts (is_utf8 t) (all_utf8 ts) h in
    let bytes = strings [] (t ∷ ts) ++ 93 ∷ rest in
    items_back ts t (length bytes) rest (omega (arith, enough_items (t ∷ ts) [] rest)) p.0 p.1

-- ---- values, before a comma or a brace

abbrev Ends : ℕ → Type 0
Ends d = (d ≡ 44) ⊎ (d ≡ 125)

absent_back : (d : ℕ) (rest : List ℕ) → Ends d → value_at (written_value absent ++ d ∷ rest) ≡ Ok (absent, d ∷ rest)
unfolding value_at literal
absent_back d rest (inl e) = subst (λ (x : ℕ). value_at (written_value absent ++ x ∷ rest) ≡ Ok (absent, x ∷ rest)) (sym e) refl
absent_back d rest (inr e) = subst (λ (x : ℕ). value_at (written_value absent ++ x ∷ rest) ≡ Ok (absent, x ∷ rest)) (sym e) refl

present_back : (d : ℕ) (rest : List ℕ) → Ends d → value_at (written_value present ++ d ∷ rest) ≡ Ok (present, d ∷ rest)
unfolding value_at literal
present_back d rest (inl e) = subst (λ (x : ℕ). value_at (written_value present ++ x ∷ rest) ≡ Ok (present, x ∷ rest)) (sym e) refl
present_back d rest (inr e) = subst (λ (x : ℕ). value_at (written_value present ++ x ∷ rest) ≡ Ok (present, x ∷ rest)) (sym e) refl

text_back : (t rest : List ℕ) → is_utf8 t ≡ true → value_at (quoted t ++ rest) ≡ Ok (text t, rest)
unfolding value_at literal
text_back t rest h = rw (item_back AnyValue t rest h) refl

skip_strings : (ts : List (List ℕ)) (rest : List ℕ) → skip_ws (strings [] ts ++ 93 ∷ rest) ≡ strings [] ts ++ 93 ∷ rest
skip_strings [] rest = refl
skip_strings (t ∷ ts) rest = refl

texts_back : (ts : List (List ℕ)) (rest : List ℕ) → all_utf8 ts ≡ true → value_at (written_value (texts ts) ++ rest) ≡ Ok (texts ts, rest)
unfolding value_at
texts_back ts rest h =
    let whole : written_value (texts ts) ++ rest ≡ 91 ∷ (strings [] ts ++ 93 ∷ rest) = ap (λ (x : List ℕ). 91 ∷ x) (append_assoc (strings [] ts) (93 ∷ []) rest) in
    ap value_at whole ∙ rw (skip_strings ts rest, array_back ts rest h) refl

value_back : (v : Value) (d : ℕ) (rest : List ℕ) → Ends d → value_utf8 v ≡ true → value_at (written_value v ++ d ∷ rest) ≡ Ok (v, d ∷ rest)
value_back absent d rest e h = absent_back d rest e
value_back present d rest e h = present_back d rest e
value_back (text t) d rest e h = text_back t (d ∷ rest) h
value_back (texts ts) d rest e h = texts_back ts (d ∷ rest) h

-- no white space is before a value
skip_value : (v : Value) (rest : List ℕ) → skip_ws (written_value v ++ rest) ≡ written_value v ++ rest
skip_value absent rest = refl
skip_value present rest = refl
skip_value (text t) rest = refl
skip_value (texts ts) rest = refl

-- ---- members

name_back : (m : Member) (rest : List ℕ) → (w : IsWritable m) → name_at (quoted m.name ++ rest) ≡ Ok (w.kind, m.name, rest)
unfolding name_at
name_back m rest w =
    let step : Option Kind → Result (Kind × List ℕ × List ℕ) Fault = λ found. elim found [ Some kind ↦ Ok (kind, m.name, rest) | None ↦ Err (unknown m.name (length (34 ∷ (escaped_text m.name ++ 34 ∷ rest)))) ] in
    ap name_at (quoted_back m.name rest) ∙ rw (string_back m.name rest w.name_in_utf8) (ap step w.known)

fitting_back : (m : Member) (d : ℕ) (rest : List ℕ) → Ends d → (w : IsWritable m) → fitting_at w.kind (written_value m.value ++ d ∷ rest) ≡ Ok (m.value, d ∷ rest)
unfolding fitting_at
fitting_back m d rest e w = rw (value_back m.value d rest e w.value_in_utf8, w.fitting) refl

-- a member, and what is after it
abbrev member_bytes : Member → List ℕ → List ℕ
member_bytes m rest = quoted m.name ++ (58 ∷ (written_value m.value ++ rest))

member_back : (m : Member) (d : ℕ) (rest : List ℕ) → Ends d → IsWritable m → member_at (member_bytes m (d ∷ rest)) ≡ Ok (m, d ∷ rest)
unfolding member_at
member_back m d rest e w = rw (name_back m (58 ∷ (written_value m.value ++ d ∷ rest)) w, skip_value m.value (d ∷ rest), fitting_back m d rest e w) refl

last_member : (m : Member) (rest : List ℕ) (n : ℕ) → IsWritable m → many member_step CommaOrBrace (suc n) (member_bytes m (125 ∷ rest)) ≡ Ok (m ∷ [], rest)
unfolding many member_step
last_member m rest n w = rw (member_back m 125 rest (inr refl) w) refl

more_members : (m : Member) (bytes : List ℕ) (n : ℕ) → IsWritable m → skip_ws bytes ≡ bytes → many member_step CommaOrBrace (suc n) (member_bytes m (44 ∷ bytes)) ≡ with_front (m ∷ []) (many member_step CommaOrBrace n bytes)
unfolding many member_step
more_members m bytes n w no_ws = rw (member_back m 44 bytes (inl refl) w, no_ws) refl

-- members, and what is after them
first_member : (m : Member) (ms : List Member) (before rest : List ℕ) → written_members before (m ∷ ms) ++ rest ≡ before ++ member_bytes m (written_members (codes ",") ms ++ rest)
first_member m ms before rest =
    let others = written_members (codes ",") ms in
    append_assoc (((before ++ quoted m.name) ++ (58 ∷ [])) ++ written_value m.value) others rest
    ∙ append_assoc ((before ++ quoted m.name) ++ (58 ∷ [])) (written_value m.value) (others ++ rest)
    ∙ append_assoc (before ++ quoted m.name) (58 ∷ []) (written_value m.value ++ (others ++ rest))
    ∙ append_assoc before (quoted m.name) (58 ∷ (written_value m.value ++ (others ++ rest)))

further_members : (m : Member) (ms : List Member) (rest : List ℕ) → written_members (codes ",") (m ∷ ms) ++ rest ≡ 44 ∷ (written_members [] (m ∷ ms) ++ rest)
further_members m ms rest = refl

no_ws_members : (m : Member) (ms : List Member) (rest : List ℕ) → skip_ws (written_members [] (m ∷ ms) ++ rest) ≡ written_members [] (m ∷ ms) ++ rest
no_ws_members m ms rest = refl

members_back : (ms : List Member) (m : Member) (n : ℕ) (rest : List ℕ) → length ms < n → IsWritable m → AllWritable ms → many member_step CommaOrBrace n (written_members [] (m ∷ ms) ++ 125 ∷ rest) ≡ Ok (m ∷ ms, rest)
members_back ms m zero rest less w ws = absurd (omega arith)
members_back [] m (suc n) rest less w ws = ap (many member_step CommaOrBrace (suc n)) (first_member m [] [] (125 ∷ rest)) ∙ last_member m rest n w
members_back (o ∷ os) m (suc n) rest less w ws =
    let tail = written_members [] (o ∷ os) ++ 125 ∷ rest in
    let others : many member_step CommaOrBrace n tail ≡ Ok (o ∷ os, rest) = members_back os o n rest (omega arith) ws.0 ws.1 in
    ap (many member_step CommaOrBrace (suc n)) (first_member m (o ∷ os) [] (125 ∷ rest)) ∙ more_members m tail n w (no_ws_members o os (125 ∷ rest)) ∙ ap (with_front (m ∷ [])) others

enough_members : (ms : List Member) (before rest : List ℕ) → length ms < length (written_members before ms ++ 125 ∷ rest)
enough_members [] before rest = omega arith
enough_members (m ∷ ms) before rest =
    let tail = written_members (codes ",") ms ++ 125 ∷ rest in
    let value = written_value m.value ++ tail in
    omega (arith, enough_members ms (codes ",") rest, ap length (first_member m ms before (125 ∷ rest)), longer before (member_bytes m tail), longer (quoted m.name) (58 ∷ value), longer (written_value m.value) tail)

all_members_back : (ms : List Member) (rest : List ℕ) → AllWritable ms → members_in (skip_ws (written_members [] ms ++ 125 ∷ rest)) ≡ Ok (ms, rest)
all_members_back [] rest ws = refl
all_members_back (m ∷ ms) rest ws =
    let bytes = written_members [] (m ∷ ms) ++ 125 ∷ rest in
    ap members_in (no_ws_members m ms (125 ∷ rest)) ∙ members_back ms m (length bytes) rest (omega (arith, enough_members (m ∷ ms) [] rest)) ws.0 ws.1

distinct_back : (ms : List Member) → repeated ms ≡ None → distinct ms ≡ Ok ms
distinct_back ms h = rw (h, distinct) refl

object_back : (ms : List Member) → AreWritable ms → object_of (written ms) ≡ Ok ms
unfolding object_of
object_back ms w = rw (all_members_back ms [] w.each) (distinct_back ms w.distinct)

-- a request that is written is read again
pub request_back : (ms : List Member) → AreWritable ms → request_of (written ms) ≡ Ok (request_words ms)
unfolding request_in
request_back ms w = rw (object_back ms w) refl
