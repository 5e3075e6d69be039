use Rattle.index_core.specs.declared.party.CoreCall.TheVariants as call
use Rattle.pac_index.proofs.shared.Shared.try_part.Given as goal

abbrev pub ghosts-run_part : goal.ghosts-run_part
ghosts-run_part g a = record { call = call.Part a.low a.count; index = a.index }
