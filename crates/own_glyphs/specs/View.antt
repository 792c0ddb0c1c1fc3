-- What the code's tables mean.
use Rattle.own_glyphs.specs.declared.source.Source.{Source as Tables}
use Rattle.own_glyphs.specs.Source.{Source}

abbrev pub seen : Tables → Source
seen t =
    record {
      glyf = t.glyf.now;
      loca = t.loca.now;
      head = t.head.now;
      long = t.long;
      maxp = t.maxp.now;
      count = t.count;
      hhea = t.hhea.now;
      pairs = t.pairs;
      hmtx = t.hmtx.now;
    }
