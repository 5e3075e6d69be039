-- What a delete answers that looks for a log line, by the words that it was told.
use Rattle.std.proofs.Common.{ℕ, ◌/◌, ◌==◌, true, false, cond, ltb, Option, Some, None, refl, arith}
use Rattle.pm_words.specs.declared.again.Again.TheVariants as again
use Rattle.pm_words.specs.declared.machine.Turn.{Turn}
use Rattle.pm_words.specs.declared.machine.Turn.TheVariants.{Go, Done}
use Rattle.pm_words.specs.declared.fence.Fence.{Fence}
use Rattle.pm_words.specs.Fences.{fence_next}
use Rattle.call_stages.specs.declared.once.Once.{Once}
use Rattle.call_stages.specs.declared.once.Once.TheVariants as once
use Rattle.call_stages.specs.declared.once.Placed.{Placed}
use Rattle.smo_log.specs.declared.take.Take.{Take}
use Rattle.smo_log.specs.declared.take.Taken.{Taken}
use Rattle.smo_log.specs.declared.take.Taken.TheVariants.{Line, Full}
use Rattle.smo_log.specs.Laws.{TakeHeeds}
use Rattle.smo_log.specs.Takes.{take_from, take_turned}
use Rattle.smo_log.proofs.LineLaw.{takes_heed}
use Rattle.split_merge.specs.declared.merging.Merge.{Merge}
use Rattle.split_merge.specs.declared.merging.Merged.{Merged}
use Rattle.split_merge.specs.Merges.{merge_turned}
use Rattle.node_ops.specs.declared.lookup.Found.{Found}
use Rattle.node_ops.specs.declared.lookup.Hit.{Hit}
use Rattle.node_ops.specs.declared.lookup.Looked.{Looked}
use Rattle.node_ops.specs.declared.lookup.Looked.TheVariants as looked
use Rattle.node_ops.specs.declared.lookup.Lookup.{Lookup}
use Rattle.node_ops.specs.declared.finish.Finish.{Finish}
use Rattle.node_ops.specs.declared.finish.FinishAt.{FinishAt}
use Rattle.node_ops.specs.declared.finish.FinishAt.TheVariants as finish_at
use Rattle.node_ops.specs.declared.del.Del.TheVariants as del
use Rattle.node_ops.specs.declared.single_del.SingleDel.TheVariants as single_del
use Rattle.node_ops.specs.LookupSteps.{lookup_turned}
use Rattle.node_ops.specs.FinishSteps.{finish_turned, finish_at_turned, finish_fenced}
use Rattle.node_ops.specs.DelSteps.{names_left, del_hit, del_looked, del_taken, goes_on, merges_at, del_finished, del_merged}
use Rattle.node_ops.specs.DelEvents.{DelHas, DelTells, DelHeeds, DelsHeed}
use Rattle.node_ops.proofs.Endings.{LooksEnd, EndsEarly, looks_end}

-- a look-up that ends early doesn't tell of the log
early_heeds : (lines : ℕ → ℕ) (limit : Option ℕ) (answer : Once Placed) → EndsEarly limit answer → DelTells lines answer
early_heeds lines limit (once.Done placed) early = tt
early_heeds lines limit (once.Spent clock) early = tt
early_heeds lines limit (once.Worn node word) early = tt
early_heeds lines limit (once.Again (again.Locked node word)) early = tt
early_heeds lines limit (once.Again (again.Moved node first second)) early = tt
early_heeds lines limit (once.Again (again.Hops count)) early = tt
early_heeds lines limit (once.Again again.LogFull) early = absurd (early.1 refl)
early_heeds lines limit (once.Again again.NoFree) early = tt
early_heeds lines limit (once.Again (again.NeedsSplit node)) early = tt
early_heeds lines limit (once.Again (again.Held word)) early = tt
early_heeds lines limit (once.Again (again.Epoch first second)) early = tt

-- nor does the end of a write, which keeps what its line says
finish_heeds : (lines : ℕ → ℕ) (finish : Finish) (line : Option ℕ) (x : ℕ) → DelHas lines (del.Single (single_del.Finishing finish line)) → DelHeeds lines (del_finished line (finish_turned finish x))
finish_heeds lines finish line x has = at finish.at
  where
    goes : (next : Finish) → DelHas lines (goes_on next line)
    goes next = elim line as (λ o. DelHas lines (del.Single (single_del.Finishing finish o)) → DelHas lines (goes_on next o)) [
      | None ↦ λ none. tt
      | Some number ↦ λ some. on number some next.at
    ] has
      where
        on : (number : ℕ) → DelHas lines (del.Single (single_del.Finishing finish (Some number))) → (at : FinishAt) → DelHas lines (merges_at next number at)
        on number some (finish_at.Fence first fence) = some
        on number some finish_at.Add = some
        on number some (finish_at.Unlock place) = some

    fenced : (first : ℕ) (o : Option Fence) → DelHeeds lines (del_finished line (finish_fenced finish first o))
    fenced first (Some fence) = goes (record finish { at = finish_at.Fence first fence })
    fenced first None = goes (record finish { at = finish_at.Add })

    at : (at : FinishAt) → DelHeeds lines (del_finished line (finish_at_turned finish at x))
    at (finish_at.Fence first fence) = fenced first (fence_next fence x)
    at finish_at.Add = goes (record finish { at = finish_at.Unlock x })
    at (finish_at.Unlock place) = tt

pub dels_heed : DelsHeed
dels_heed (del.Single (single_del.Looking lookup)) lines x sound hears has = at (lookup_turned lookup x) (looks_end lookup.call lookup.at x sound.0.here)
  where
    hits : (found : Found) (hit : Option Hit) → DelHas lines (del_hit lookup.call found.hold found.directory.bitmap hit)
    hits found (Some hit) =
        let bitmap = found.directory.bitmap in
        elim (ltb (lookup.call.view.layout.slots / 2) (names_left lookup.call bitmap hit)) as (λ b. DelHas lines
        (cond b (del.Single (single_del.Clearing lookup.call found.hold bitmap hit None)) (del.Single (single_del.Next lookup.call found.hold bitmap hit)))) [ true ↦ tt | false ↦ tt ]
    hits found None = tt

    at : (turn : Turn Lookup Looked) → LooksEnd lookup.call.limit turn → DelHeeds lines (del_looked lookup.call turn)
    at (Go next) early = tt
    at (Done (looked.Early answer)) early = early_heeds lines lookup.call.limit answer early
    at (Done (looked.Found found)) early = hits found found.hit
dels_heed (del.Single (single_del.Next call hold bitmap hit)) lines x sound hears has =
    elim (x == 0) as (λ b. DelHas lines (cond b (del.Single (single_del.Clearing call hold bitmap hit None)) (del.Single (single_del.Taking call hold bitmap hit (take_from call.view.layout call.view.caller))))) [
      | true ↦ tt
      | false ↦ λ index within. absurd (omega arith)
    ]
dels_heed (del.Single (single_del.Taking call hold bitmap hit take)) lines x sound hears has = at (take_turned take x) (takes_heed take lines x sound.2.here hears has)
  where
    at : (turn : Turn Take Taken) → TakeHeeds take.caller lines take.index turn → DelHeeds lines (del_taken call hold bitmap hit turn)
    at (Go next) heeds = heeds
    at (Done (Line line)) heeds = (take.index, heeds.1, heeds.2)
    at (Done Full) heeds = heeds
dels_heed (del.Single (single_del.Refusing call hold bitmap hit)) lines x sound hears has = has
dels_heed (del.Single (single_del.Clearing call hold bitmap hit line)) lines x sound hears has = has
dels_heed (del.Single (single_del.Finishing finish line)) lines x sound hears has = finish_heeds lines finish line x has
dels_heed (del.Merging call hold old place merge) lines x sound hears has = at (merge_turned merge x)
  where
    at : (turn : Turn Merge Merged) → DelHeeds lines (del_merged call hold old place turn)
    at (Go next) = has
    at (Done merged) = tt
