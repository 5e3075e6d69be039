-- Why words and texts are refused, before anything is played.
use Rattle.std.specs.Prelude.{ℕ, ◌<◌, List, Option}
use Rattle.cat_command.specs.Commands.{IsCommand}
use Rattle.cat_command.specs.declared.command.Command.{Command}
use Rattle.catalog_cli.specs.Runs.{IsNoScript}
use Rattle.catalog_cli.specs.declared.status.Status.{Status}
use Rattle.catalog_cli.specs.declared.status.Status.TheVariants as status

-- The words are those of no command.
abbrev pub IsOfNoCommand : List (List ℕ) → Status → Type 0
IsOfNoCommand words status.Done = ⊥
IsOfNoCommand words status.Usage = (command : Command) → ¬ IsCommand words command
IsOfNoCommand words (status.Script fault) = ⊥
IsOfNoCommand words status.Read = ⊥
IsOfNoCommand words status.Write = ⊥
IsOfNoCommand words status.Shelf = ⊥
IsOfNoCommand words status.NoMemory = ⊥
IsOfNoCommand words (status.Image refusal) = ⊥

-- Why no script was read from a source.
abbrev pub IsUnread : Option (List ℕ) → (reads reads' : ℕ) → Status → Type 0
IsUnread left reads reads' (status.Script fault) = IsNoScript left fault
IsUnread left reads reads' status.Read = reads < reads'
IsUnread left reads reads' status.NoMemory = Unit {0}
IsUnread left reads reads' other = ⊥
