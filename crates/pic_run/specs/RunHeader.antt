-- The header of the dump of a run.
use Rattle.pic_deck.specs.Deck.{DeckView, heads_of}
use Rattle.pic_header.specs.Header.{HeaderView}

-- what the header of the dump says
abbrev pub header_of : DeckView → HeaderView
header_of d = record {
  version = d.version;
  cells = d.cells;
  side = d.side;
  steps = d.steps;
  every = d.every;
  filter = d.filter;
  scales = d.scales;
  species = heads_of d;
  loops = d.loops;
}
