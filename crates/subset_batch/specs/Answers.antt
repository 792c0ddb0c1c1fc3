-- The line of answer of a request, as one JSON object.
use Rattle.std.specs.Prelude.{ℕ, List, [], ◌∷◌, ◌++◌, codes, decimal}
use Rattle.subset_batch.specs.Written.{escaped_text}

-- the number of the request's line, and the status that the program would end with
abbrev pub answer_front : ℕ → ℕ → List ℕ
answer_front line status = codes "{\"line\":" ++ decimal line ++ codes ",\"status\":" ++ decimal status

-- what follows these: the members of an object that is a line, and what closes it
abbrev pub further : List ℕ → List ℕ
further [] = codes "}\n"
further (brace ∷ members) = codes "," ++ members

-- a request that was done, with the members of this object, if there is one
abbrev pub done_line : ℕ → List ℕ → List ℕ
done_line line object = answer_front line 0 ++ further object

-- a request that failed, and why
abbrev pub failed_line : ℕ → ℕ → List ℕ → List ℕ
failed_line line status text = answer_front line status ++ codes ",\"error\":\"" ++ escaped_text text ++ codes "\"}\n"
