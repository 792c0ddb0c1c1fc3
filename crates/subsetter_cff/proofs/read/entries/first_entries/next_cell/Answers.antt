use Rattle.std.proofs.Common.{◌≡◌, ◌∙◌, ◌-◌, ◌<◌, ◌≤◌, List, [], ◌∷◌, ℕ, length, drop, get_or, Some, None, true, false, refl, sym, ap, arith}
use Rattle.std.specs.Option.{option_copied, option_map}
use Rattle.std.proofs.lemmas.Option.{slice_get-get_or}
use Rattle.subsetter_cffdata.specs.Dicts.Dict.{Token, Operand, Operator, token_at, entry_at}
use Rattle.subsetter_cffdata.specs.Dicts.TokenView.{token_read}
use Rattle.subsetter_cffdata.specs.Views.{number_of, operator_of}
use Rattle.subsetter_cff.specs.declared.read.entries.first_entries.Cell.{Cell}
use Rattle.subsetter_cff.specs.Read.Entries.FirstEntries.{Saying, only, last, IsCell, AreCells}
use Rattle.subsetter_cff.proofs.ReadLaws.EntriesLaws.FirstCells as laws
use Rattle.subsetter_cff.proofs.read.entries.first_entries.next_cell.Goals as goal
use Rattle.subsetter_cff.proofs.read.entries.first_entries.next_cell.Goals.{then-following, else-following}

abbrev nothing : Cell
nothing = record { here = None; found = None }

pub returns-in_default : goal.returns-in_default
returns-in_default g c = laws.nothing_is (g.S.Search.saying c.args.search.now) c.args.bytes.now c.args.at c.requires.inside (laws.no_token c.args.bytes.now c.args.at c.in_default.ensures)

pub entry_cell-requires : goal.entry_cell-requires
entry_cell-requires g c =
    let less = laws.left_shorter c.args.bytes.now c.args.at c.in-Some.token.end _ c.requires.inside c.in-Some.ensures in
    omega (arith, less, c.saturating_sub-left.ensures, c.requires.cells.len)

pub returns-in-Some-operator : goal.returns-in-Some-operator
returns-in-Some-operator g c =
    let operator = operator_of c.in-Some-operator.operator in
    let token : token_at (last c.args.bytes.now c.args.at) ≡ Some (Operator operator, drop c.in-Some.token.end c.args.bytes.now) =
    c.in-Some.ensures ∙ ap (λ o. Some (token_read c.read_token.new.operand o, drop c.in-Some.token.end c.args.bytes.now)) c.in-Some-operator.is in
    c.entry_cell.ensures c.args.bytes.now c.args.at [] c.requires.cells c.requires.inside
    (laws.by_operator c.args.bytes.now c.args.at c.in-Some.token.end operator token ∙ ap (λ (n : ℕ). Some (record { operator = operator; operands = [] }, last c.args.bytes.now n)) (sym c.saturating_sub-left.ensures))
    refl refl

pub bounds : goal.bounds
bounds g c =
    let less = laws.left_shorter c.args.bytes.now c.args.at c.in-Some.token.end _ c.requires.inside c.in-Some.ensures in
    omega (arith, less, c.saturating_sub-left.ensures, c.requires.cells.len)

-- the cell of the place after an operand
past_is : (said : Saying) (bytes : List ℕ) (cells : List Cell) (at left end : ℕ) (t : Token) → AreCells said bytes cells at → at ≤ length bytes → token_at (last bytes at) ≡ Some (t, drop end bytes) → left ≡ length bytes - end
    → (left < at) × IsCell said bytes left (get_or cells left nothing)
past_is said bytes cells at left end t all inside token is =
    let less = laws.left_shorter bytes at end t inside token in
    (omega (arith, less, is), all.each left (get_or cells left nothing) (slice_get-get_or cells left nothing (omega (arith, less, is, all.len))))

pub returns-in_default-here : goal.returns-in_default-here
returns-in_default-here g c =
    let said = g.S.Search.saying c.args.search.now in
    let bytes = c.args.bytes.now in
    let left = c.saturating_sub-left.result in
    let x = number_of c.read_token.new.operand in
    let token : token_at (last bytes c.args.at) ≡ Some (Operand x, drop c.in-Some.token.end bytes) = c.in-Some.ensures ∙ ap (λ o. Some (token_read c.read_token.new.operand o, drop c.in-Some.token.end bytes)) c.in_default-operator.is in
    let following = past_is said bytes c.args.cells.now c.args.at left c.in-Some.token.end (Operand x) c.requires.cells c.requires.inside token c.saturating_sub-left.ensures in
    let none = laws.none_here bytes left (get_or c.args.cells.now left nothing).here c.in_default-here.is following.1.here in
    laws.nothing_is said bytes c.args.at c.requires.inside
    (laws.by_operand bytes c.args.at c.in-Some.token.end x None token (ap (λ (n : ℕ). entry_at (last bytes n)) (sym c.saturating_sub-left.ensures) ∙ none))

pub entry_cell-requires-2 : goal.entry_cell-requires-2
entry_cell-requires-2 g c =
    let said = g.S.Search.saying c.args.search.now in
    let bytes = c.args.bytes.now in
    let left = c.saturating_sub-left.result in
    let following = past_is said bytes c.args.cells.now c.args.at left c.in-Some.token.end _ c.requires.cells c.requires.inside c.in-Some.ensures c.saturating_sub-left.ensures in
    let entry = laws.entry_here bytes left (get_or c.args.cells.now left nothing).here c.in-Some-here.following c.in-Some-here.is following.1.here in
    omega (arith, following.0, entry.shorter, c.requires.cells.len)

pub returns : goal.returns
returns g c =
    let said = g.S.Search.saying c.args.search.now in
    let bytes = c.args.bytes.now in
    let left = c.saturating_sub-left.result in
    let x = number_of c.read_token.new.operand in
    let token : token_at (last bytes c.args.at) ≡ Some (Operand x, drop c.in-Some.token.end bytes) = c.in-Some.ensures ∙ ap (λ o. Some (token_read c.read_token.new.operand o, drop c.in-Some.token.end bytes)) c.in_default-operator.is in
    let following = past_is said bytes c.args.cells.now c.args.at left c.in-Some.token.end (Operand x) c.requires.cells c.requires.inside token c.saturating_sub-left.ensures in
    let entry = laws.entry_here bytes left (get_or c.args.cells.now left nothing).here c.in-Some-here.following c.in-Some-here.is following.1.here in
    let is = laws.by_operand bytes c.args.at c.in-Some.token.end x _ token (ap (λ (n : ℕ). entry_at (last bytes n)) (sym c.saturating_sub-left.ensures) ∙ entry.is) in
    let one : option_map number_of (option_copied c.if-following.only) ≡ only (x ∷ entry.operands) =
    elim c.if-following.branch [
      | then-following w ↦ ap (λ o. option_map number_of (option_copied o)) w.only-is ∙ laws.only_bare true x entry.operands (sym w.if-following.true ∙ entry.bare)
      | else-following w ↦ ap (λ o. option_map number_of (option_copied o)) w.only-is ∙ laws.only_bare false x entry.operands (sym w.if-following.false ∙ entry.bare)
    ] in
    c.entry_cell-2.ensures bytes c.args.at (x ∷ entry.operands) c.requires.cells c.requires.inside is refl one
