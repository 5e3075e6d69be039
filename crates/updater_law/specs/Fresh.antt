-- A fresh index: node 0 is listed, and the zero key leads to it.
use Rattle.std.specs.Prelude.{◌==◌, false, if◌then◌else◌}
use Rattle.pm_words.specs.Codes.{free_status, live_status, empty_state}
use Rattle.tree_law.specs.Fresh.{fresh_layer}
use Rattle.updater_law.specs.Covers.{Lines}
use Rattle.updater_law.specs.Facts.{TurnFacts}

abbrev pub no_lines : Lines
no_lines = record { state = λ j. empty_state; kind = λ j. 0; node = λ j. 0; anchor = λ j. 0 }

abbrev pub fresh_facts : TurnFacts
fresh_facts = record {
  listed = λ n. n == 0;
  anchor = λ n. 0;
  status = λ n. if n == 0 then live_status else free_status;
  stamp = λ n. 0;
  held = λ n. false;
  holder = λ n. 0;
  worn = λ n. false;
  line = no_lines;
  safe_line = no_lines;
  layer = fresh_layer;
  safe_layer = fresh_layer;
}
