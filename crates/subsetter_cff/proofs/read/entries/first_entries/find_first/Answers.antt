use Rattle.std.proofs.Common.{◌≡◌, ◌∙◌, ◌-◌, ◌<◌, ◌≤◌, suc, List, ℕ, length, take, drop, get_or, Some, None, Option, sym, ap, subst, arith}
use Rattle.std.proofs.lemmas.Option.{slice_get-get_or}
use Rattle.subsetter_cffdata.specs.Dicts.Dict.{entries}
use Rattle.subsetter_cff.specs.declared.read.entries.first_entries.Cell.{Cell}
use Rattle.subsetter_cff.specs.declared.read.entries.first_entries.Found.{Found}
use Rattle.subsetter_cff.specs.Read.Entries.FirstEntries.{Saying, first_said, said_within, IsCell, AreCells}
use Rattle.subsetter_cff.proofs.ReadLaws.EntriesLaws.FirstCells as laws
use Rattle.subsetter_cff.proofs.read.entries.first_entries.find_first.Goals as goal

abbrev nothing : Cell
nothing = record { here = None; found = None }

-- the cell of the place where the dict begins
said_from : (said : Saying) (bytes : List ℕ) (cells : List Cell) (start end : ℕ) (o : Option Found) → AreCells said bytes cells (suc (length bytes)) → start ≤ end → end < length cells
    → (get_or cells (length cells - 1 - start) nothing).found ≡ o
    → said_within (length bytes - start) (end - start) o ≡ first_said said (entries (take (end - start) (drop start bytes)))
said_from said bytes cells start end o all order inside is =
    let at = length cells - 1 - start in
    let here : at < length cells = omega arith in
    let place : at ≡ length bytes - start = omega (arith, all.len) in
    let cell : Cell = get_or cells at nothing in
    ap (said_within (length bytes - start) (end - start)) (sym is)
    ∙ laws.found_is said bytes start (end - start) cell (omega (arith, all.len)) (subst (λ (i : ℕ). IsCell said bytes i cell) place (all.each at cell (slice_get-get_or cells at nothing here)))

pub returns-in_err-found : goal.returns-in_err-found
returns-in_err-found c = λ said bytes all. c.from_residual.ensures ∙ said_from said bytes c.args.cells.now c.args.start c.args.end None all c.requires.order c.requires.inside c.in_err-found.was

pub returns-then-at-end : goal.returns-then-at-end
returns-then-at-end c = λ said bytes all.
    laws.held (length bytes - c.args.start) (c.args.end - c.args.start) c.in_ok-found.found (omega (arith, c.if-at-end.true, all.len))
    ∙ said_from said bytes c.args.cells.now c.args.start c.args.end (Some c.in_ok-found.found) all c.requires.order c.requires.inside c.in_ok-found.was

pub returns-else-at-end : goal.returns-else-at-end
returns-else-at-end c = λ said bytes all.
    laws.off (length bytes - c.args.start) (c.args.end - c.args.start) c.in_ok-found.found (omega (arith, c.if-at-end.false, all.len))
    ∙ said_from said bytes c.args.cells.now c.args.start c.args.end (Some c.in_ok-found.found) all c.requires.order c.requires.inside c.in_ok-found.was
