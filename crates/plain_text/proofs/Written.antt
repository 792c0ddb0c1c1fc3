-- What a writer holds while lines are written to it.
use Rattle.std.proofs.Common.{◌≡◌, ℕ, List, [], ◌++◌, refl, sym, ap, ◌∙◌, append_assoc, append-nil, Result, Ok, Err}
use Rattle.std.specs.Prelude.{⊤, Option, Some, None, OnOk}
use Rattle.std.specs.Io.KnownBytes.{Appends}

-- with the rest, the writer will have gained all
abbrev pub Reaches : Option (List ℕ) → Option (List ℕ) → List ℕ → List ℕ → Type 0
Reaches None new rest all = ⊤
Reaches (Some xs) None rest all = ⊥
Reaches (Some xs) (Some ys) rest all = ys ++ rest ≡ xs ++ all

pub at_first : (old : Option (List ℕ)) (all : List ℕ) → Reaches old old all all
at_first None all = tt
at_first (Some xs) all = refl

pub after_part : (old now new : Option (List ℕ)) (line rest all : List ℕ) → Reaches old now (line ++ rest) all → Appends now new line → Reaches old new rest all
after_part None now new line rest all h a = tt
after_part (Some xs) None new line rest all h a = elim h [ ]
after_part (Some xs) (Some ys) None line rest all h a = elim a [ ]
after_part (Some xs) (Some ys) (Some zs) line rest all h a = ap (λ l. l ++ rest) a ∙ append_assoc ys line rest ∙ h

pub at_last : (old now : Option (List ℕ)) (all : List ℕ) → Reaches old now [] all → Appends old now all
at_last None now all h = tt
at_last (Some xs) None all h = elim h [ ]
at_last (Some xs) (Some ys) all h = sym (append-nil ys) ∙ h

-- two texts that were written one after the other
pub both : (old now new : Option (List ℕ)) (first second : List ℕ) → Appends old now first → Appends now new second → Appends old new (first ++ second)
both None now new first second a b = tt
both (Some xs) None new first second a b = elim a [ ]
both (Some xs) (Some ys) None first second a b = elim b [ ]
both (Some xs) (Some ys) (Some zs) first second a b = b ∙ ap (λ l. l ++ second) a ∙ append_assoc xs first second

-- nothing was written after a text
pub flushed : (old now new : Option (List ℕ)) (text : List ℕ) → Appends old now text → Appends now new [] → Appends old new text
flushed None now new text a b = tt
flushed (Some xs) None new text a b = elim a [ ]
flushed (Some xs) (Some ys) None text a b = elim b [ ]
flushed (Some xs) (Some ys) (Some zs) text a b = b ∙ append-nil ys ∙ a

-- the same, where the second is written if no error comes
pub then : {E : Type 0} (r : Result (Unit {0}) E) (old now new : Option (List ℕ)) (first second : List ℕ) → Appends old now first → OnOk r (Appends now new second) → OnOk r (Appends old new (first ++ second))
then (Ok done) old now new first second a b = both old now new first second a b
then (Err e) old now new first second a b = tt

-- where nothing is written after, if no error comes
pub ended : {E : Type 0} (r : Result (Unit {0}) E) (old now new : Option (List ℕ)) (text : List ℕ) → Appends old now text → OnOk r (Appends now new []) → OnOk r (Appends old new text)
ended (Ok done) old now new text a b = flushed old now new text a b
ended (Err e) old now new text a b = tt
