-- What the front of a table in memory shows.
use Rattle.std.specs.Prelude.{ℕ, ◌==◌, if◌then◌else◌, List, Option, Some, Result, Err}
use Rattle.std.specs.Option.{ok_or, option_and_then}
use Rattle.subsetter_base.specs.Bytes.{◌>>=◌, first_number}
use Rattle.subsetter_base.specs.declared.error.Error.{Error}
use Rattle.subsetter_base.specs.declared.error.Error.TheVariants.{MalformedFont, CFFError}
use Rattle.subsetter_cffdata.specs.Dicts.Dict.{entries}
use Rattle.subsetter_cffdata.specs.Indexes.Index.{index_at}
use Rattle.subsetter_cffdata.specs.Indexes.IndexView.{items}
use Rattle.subsetter_type2.specs.Subroutines.{entry_at}
use Rattle.subsetter_cff.specs.Read.Cff.{Cff, past_header, before}
use Rattle.subsetter_cff.specs.declared.read.front.Front.{Front}

abbrev pub front_of : Front → Cff
front_of f =
    record {
      bytes = f.bytes.now;
      names = f.names.now;
      top = entries f.top.now;
      strings = items f.strings;
      subroutines = items f.subroutines;
    }

-- the parts that follow one another from after the header on
unfoldable pub front_at : List ℕ → List ℕ → Option Cff
front_at bytes start =
    option_and_then (λ names. option_and_then (λ tops. option_and_then
    (λ top. option_and_then (λ strings. option_and_then (λ subroutines.
    Some (record {
      bytes = bytes;
      names = before start names.1;
      top = entries top;
      strings = strings.0;
      subroutines = subroutines.0;
    }))
    (index_at strings.1)) (index_at tops.1)) (entry_at tops.0 0)) (index_at names.1)) (index_at start)

-- the front of a table of major version 1, or the error
unfoldable pub front_read : List ℕ → Result Cff Error
front_read bytes = ok_or (first_number bytes) MalformedFont >>= λ version.
    if version == 1 then ok_or (option_and_then (front_at bytes) (past_header bytes)) MalformedFont else Err CFFError
