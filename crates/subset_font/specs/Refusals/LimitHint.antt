-- That the limits of a charstring's run or of the font's size are why no font is made: with twice these one is made.
use Rattle.std.specs.Prelude.{◌≡◌, ◌==◌, ◌*◌, ◌-◌, ◌^◌, nat_lt, if◌then◌else◌, not, ◌||◌, Bool, true, false, ℕ}
use Rattle.std.specs.Prelude.{List, length, Option, Some, None, is_some}
use Rattle.std.specs.Option.{option_map}
use Rattle.subsetter_type2.specs.declared.limits.Limits.{Limits}
use Rattle.subset_font.specs.Faces.Accepted.{is_of_memory}
use Rattle.subset_font.specs.Making.Outcome.{IsOutcome, IsNoOutcome}
use Rattle.subset_task.specs.declared.refusals.failure.Failure.{Failure}
use Rattle.subset_font.specs.declared.refusals.hint.text.Hint.{Hint}
use Rattle.subset_font.specs.declared.refusals.hint.text.Hint.TheVariants.{MoreBytes, LittleLimits, GivenLimits}
use Rattle.subset_font.specs.declared.making.outcome.Outcome.{Outcome}
use Rattle.subset_task.specs.declared.task.Plan.{Plan}

-- the same plan within other limits
abbrev pub within : Limits → Plan → Plan
within limits plan = record plan { task = record plan.task { options = record plan.task.options { limits = limits } } }

-- how many bytes the font has that a plan makes; none where it makes none, and memory isn't why
pub data IsSize (plan : Plan) (bytes : List ℕ) : Option ℕ → Type 0 where
  of_outcome : (o : Outcome) → IsOutcome plan bytes o → IsSize plan bytes (Some (length o.made.font.items))
  of_failure : (why : Failure) → is_of_memory why ≡ false → IsNoOutcome plan bytes why → IsSize plan bytes None

-- ---- twice the limits

-- twice a number, or the greatest one below twice the bound
abbrev pub twice : ℕ → ℕ → ℕ
twice bound n = if nat_lt n bound then 2 * n else 2 * bound - 1

-- limits that differ in the bytes, of which they allow twice these
abbrev pub AreLonger : ℕ → Limits → Limits → Type 0
AreLonger most given limits =
    (limits.tokens ≡ given.tokens) × ((limits.depth ≡ given.depth) × (limits.bytes ≡ Some (twice (2 ^ 31) most)))

-- limits of twice each of the given ones
abbrev pub AreWider : Limits → Limits → Type 0
AreWider given limits =
    (limits.tokens ≡ twice (2 ^ 31) given.tokens)
    × ((limits.depth ≡ twice (2 ^ 7) given.depth) × (limits.bytes ≡ option_map (twice (2 ^ 31)) given.bytes))

-- ---- which of them is why

-- what the size of the font says that is made within other limits
pub record IsFound (Wanted : Limits → Type 0) (said : Option ℕ → Option Hint) (plan : Plan) (bytes : List ℕ)
    (hint : Option Hint)
    : Type 0 where
  pub limits : Limits
  pub are_wanted : Wanted limits
  pub size : Option ℕ
  pub is_size : IsSize (within limits plan) bytes size
  pub hint_is : hint ≡ said size

-- it has more bytes than these
abbrev pub more_than : ℕ → Option ℕ → Option Hint
more_than most (Some size) = if nat_lt most size then Some (MoreBytes most) else None
more_than most None = None

abbrev pub IsLong : ℕ → Plan → List ℕ → Option Hint → Type 0
IsLong most plan = IsFound (AreLonger most plan.task.options.limits) (more_than most) plan

-- by the bytes that it may have
abbrev pub IsLongIf : Option ℕ → Plan → List ℕ → Option Hint → Type 0
IsLongIf (Some most) plan bytes hint = IsLong most plan bytes hint
IsLongIf None plan bytes hint = hint ≡ None

-- it is made
abbrev pub little : Limits → Option ℕ → Option Hint
little given (Some size) = Some (LittleLimits given.tokens given.depth)
little given None = None

abbrev pub IsLittle : Plan → List ℕ → Option Hint → Type 0
IsLittle plan = IsFound (AreWider plan.task.options.limits) (little plan.task.options.limits) plan

-- that of the bytes goes first; where neither is there, that limits are given
pub data IsLimitHint (plan : Plan) (bytes : List ℕ) : Hint → Type 0 where
  long : (hint : Hint) → IsLongIf plan.task.options.limits.bytes plan bytes (Some hint) → IsLimitHint plan bytes hint
  short : (hint : Hint) → IsLongIf plan.task.options.limits.bytes plan bytes None → IsLittle plan bytes (Some hint)
      → IsLimitHint plan bytes hint
  limited : IsLongIf plan.task.options.limits.bytes plan bytes None → IsLittle plan bytes None
      → IsLimitHint plan bytes GivenLimits

-- ---- where limits are given: others than the default ones

abbrev pub has_limits : Limits → Bool
has_limits limits = not (limits.tokens == 1000000) || (not (limits.depth == 64) || is_some limits.bytes)

abbrev pub IsLimitHintIf : Bool → Plan → List ℕ → Option Hint → Type 0
IsLimitHintIf true plan bytes (Some hint) = IsLimitHint plan bytes hint
IsLimitHintIf true plan bytes None = ⊥
IsLimitHintIf false plan bytes hint = hint ≡ None
