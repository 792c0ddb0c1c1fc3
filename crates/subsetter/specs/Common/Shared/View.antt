-- What the code's shared tables mean.
use Rattle.std.specs.Option.{option_map}
use Rattle.std.specs.Cow.{cow_slice_items}
use Rattle.subsetter.specs.declared.common.shared.SharedTables.{SharedTables as Made}
use Rattle.subsetter.specs.Common.Name.View.{name_seen}
use Rattle.subsetter.specs.Common.Shared.Plain.{SharedTables}

abbrev pub shared_seen : Made → SharedTables
shared_seen m =
    record {
      head = m.head;
      metrics = m.metrics;
      maxp = m.maxp;
      name = option_map name_seen m.name;
      post = option_map cow_slice_items m.post;
    }
