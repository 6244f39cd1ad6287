-- Which words are a command: those that `clap` takes.
use Rattle.std.specs.Prelude.{◌≡◌, ◌↔◌, List, [], ◌∷◌, codes, Some}
use Rattle.clap.specs.Words.{Text, fault_of}
use Rattle.pic_line.specs.declared.asked.Command.{Command}
use Rattle.pic_line.specs.CommandLine.{pic_app, command_of}

-- `clap`'s definition has no fault at the words exactly where they are a command
abbrev pub CommandsAreTaken : Type 0
CommandsAreTaken = (words : List Text)
    → (fault_of pic_app (codes "pic" ∷ words) ≡ []) ↔ ((c : Command) × (command_of words ≡ Some c))
