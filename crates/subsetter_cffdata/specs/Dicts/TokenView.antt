-- What a token in memory shows, whose operand is apart.
use Rattle.std.specs.Prelude.{Option, Some, None}
use Rattle.subsetter_cffdata.specs.declared.dicts.operator.Operator.{Operator as StoredOperator}
use Rattle.subsetter_cffdata.specs.Dicts.Dict.{Token, Operand, Operator}
use Rattle.subsetter_cffdata.specs.Views.{number_of, operator_of}
use Rattle.subsetter_cffdata.specs.declared.numerals.number.Number.{Number as StoredNumber}
use Rattle.subsetter_cffdata.specs.declared.dicts.tokens.Token.{Token as StoredToken}
use Rattle.subsetter_cffdata.specs.declared.dicts.tokens.Token.TheVariants as tokens

abbrev pub token_of : StoredNumber → StoredToken → Token
token_of x tokens.Operand = Operand (number_of x)
token_of x (tokens.Operator o) = Operator (operator_of o)

-- an operator, or else an operand
abbrev pub token_read : StoredNumber → Option StoredOperator → Token
token_read x None = Operand (number_of x)
token_read x (Some o) = Operator (operator_of o)
