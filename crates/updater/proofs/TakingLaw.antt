-- An attempt at the updater lock tells what it found.
use Rattle.std.proofs.Common.{◌≡◌, ◌==◌, true, false, cond, refl}
use Rattle.std.proofs.lemmas.Bool.{eqb-true, eqb-false}
use Rattle.pm_words.specs.Codes.{untaken_lock}
use Rattle.updater.specs.declared.taking.Took.TheVariants.{Taken, Held}
use Rattle.updater.specs.Takings.{TellsFound, TakingsHeed}

pub takings_heed : TakingsHeed
takings_heed found =
    elim (found == untaken_lock) as (λ b. (found == untaken_lock) ≡ b → TellsFound found (cond b Taken (Held found))) [
      | true ↦ λ is. eqb-true _ _ is
      | false ↦ λ other. (refl, eqb-false _ _ other)
    ] refl
