-- Steps on nodes alone, or a load of the search layer, of a call that has a log line or none and owes nothing; and what is known of the name's slot.
use Rattle.std.proofs.Common.{◌≡◌, ℕ, ◌++◌, Option, Some, None, inl, length, refl, sym, subst, ap, ◌∙◌}
use Rattle.cat_key.specs.Names.{words_of}
use Rattle.cat_key.proofs.Packing.{length-words_of}
use Rattle.pm_words.specs.declared.layout.Layout.{Layout}
use Rattle.pm_words.specs.declared.action.Action.{Action}
use Rattle.pm_words.specs.declared.machine.Turn.{Turn}
use Rattle.pm_words.specs.declared.machine.Turn.TheVariants.{Go, Done}
use Rattle.pm_words.specs.Offsets.{prints_offset, slot_offset}
use Rattle.data_node.specs.Slots.{IsLive}
use Rattle.data_node.specs.Spots.{Spot, IsLiveIn, name_words}
use Rattle.call_stages.specs.declared.once.Once.{Once}
use Rattle.call_stages.specs.declared.once.Placed.{Placed}
use Rattle.call_stages.specs.Stages.{Knows, Sight, Held, Stage, Idle, Saw, Wears, Reads, Holds, Eyes, Splits, Leaves, Meets, Joins, IsLoose}
use Rattle.call_stages.specs.Prevs.{no_debt, Deals, keeps}
use Rattle.call_stages.specs.Footings.{Footing, Minds}
use Rattle.permutation.specs.Sparing.{SparingStep, on_nodes, on_layer, on_permutation}
use Rattle.data_list.specs.declared.walk.Walk.{Walk}
use Rattle.data_list.specs.WalkStages.{sight_in, walk_watching}
use Rattle.data_list.proofs.WalkLaw.{walk_loose, view_loose}
use Rattle.node_ops.specs.declared.lookup.LookupAt.{LookupAt}
use Rattle.node_ops.specs.declared.lookup.LookupAt.TheVariants as look
use Rattle.node_ops.specs.declared.call.Call.{Call}
use Rattle.node_ops.specs.declared.lookup.Hit.{Hit}
use Rattle.node_ops.specs.declared.lookup.Found.{Found}
use Rattle.node_ops.specs.declared.running.Running.{Running}
use Rattle.node_ops.specs.Calls.{IsCall, name_in}
use Rattle.call_stages.specs.Lines.{HeldLine}
use Rattle.node_ops.specs.CallStages.{words_from, seen_hit, stage_of, stage_after, reply_of, held_by, walk_by, lookup_at_stage, footing_after}
use Rattle.node_ops.specs.RunningSteps.{wrapped}
use Rattle.index_law.proofs.Loose.{each_loose}
use Rattle.node_ops.proofs.SeenLemmas.{Seen, Stand, seen_back, stand_whole, name_stands}
use Rattle.node_ops.proofs.LookupLaw.{MachineLeads, PlainStep, steps, reads_layer, loads_permutation, hit_words, found_known}

-- the name in the slot that has it
pub hit_words_known : (s : Spot) (call : Call) (bitmap : ℕ) (hit : Hit) → IsCall call → Seen s (seen_hit call bitmap (Some hit)) → IsLive bitmap hit.slot
    → IsLiveIn s hit.slot × (name_words s hit.slot ≡ words_of (name_in call))
hit_words_known s call bitmap hit sound seen live =
    let three : length call.name ≡ 3 = sym (ap length sound.packed.whole) ∙ length-words_of (name_in call) in (
      subst (λ b. IsLive b hit.slot) (sym seen.0) live,
      name_stands s hit.slot call.name three (subst (Stand s (slot_offset hit.slot 0) call.name) three (stand_whole s (slot_offset hit.slot 0) call.name seen.1)) ∙ sym sound.packed.whole,
    )

-- a part of what is known once the name is looked up
pub part_hit : (s : Spot) (call : Call) (found : Found) → Knows (name_in call) (found_known call found) s → Seen s (seen_hit call found.directory.bitmap found.hit)
part_hit s call found known =
    elim found.hit as (λ hit. Seen s (words_from prints_offset found.directory.prints ++ hit_words call hit) → Seen s (seen_hit call found.directory.bitmap hit)) [
      | None ↦ λ seen. (known.seen.0, tt)
      | Some hit ↦ λ seen. (known.seen.0, seen_back s (words_from prints_offset found.directory.prints) (words_from (slot_offset hit.slot 0) call.name) seen)
    ] known.seen.1

-- a step on nodes of a call that has this line, if any, and no debt
abbrev pub Plain : Layout → ℕ → ℕ → Option HeldLine → Stage → Action → ℕ → Turn Running (Once Placed) → Type 0
Plain l g c line stage action x turn = SparingStep l g c (record { stage = stage; line = line; debt = no_debt }) action x (footing_after turn) (reply_of turn)

-- the stage of a call that holds one node at most
abbrev pub IsSingle : Stage → Type 0
IsSingle (Splits left fresh phase) = ⊥
IsSingle (Joins h left right pace) = ⊥
IsSingle _ = Unit {0}

pub single_deals : (s t : Stage) → IsSingle s → Deals s t no_debt no_debt
single_deals s t single = keeps (λ q. subst IsSingle q.was single) (λ q. subst IsSingle q.was single) (λ q. absurd (subst IsSingle q.was single)) tt tt

-- its steps ask nothing of the line
single_minds : (s t : Stage) (line : Option HeldLine) → IsSingle s → Minds s t line
single_minds Idle t line single = tt
single_minds (Saw n v w k) t line single = tt
single_minds (Wears n v) t line single = tt
single_minds (Reads n v sight told) t line single = tt
single_minds (Holds n w h) t line single = tt
single_minds (Eyes n w h m v u free) t line single = tt
single_minds (Splits left fresh phase) t line single = absurd single
single_minds (Leaves left) t line single = tt
single_minds (Meets n w h right) t line single = tt
single_minds (Joins h left right pace) t line single = absurd single

-- what it goes on with has the same line, and no debt
abbrev pub IsPlainAfter : Option HeldLine → Turn Running (Once Placed) → Type 0
IsPlainAfter line turn = footing_after turn ≡ record { stage = stage_after turn; line = line; debt = no_debt }

-- such a step, of what it has
plain_foots : (l : Layout) (g c : ℕ) (line : Option HeldLine) (s : Stage) (action : Action) (x : ℕ) (t : Stage) (answer : Option (Once Placed)) → IsSingle s → PlainStep l g s action x t answer
    → SparingStep l g c (record { stage = s; line = line; debt = no_debt }) action x (record { stage = t; line = line; debt = no_debt }) answer
plain_foots l g c line s action x t answer single (steps step) = on_nodes (single_minds s t line single) (inl refl) step (single_deals s t single)
plain_foots l g c line s action x t answer single (reads_layer has) = on_layer refl has
plain_foots l g c line s action x t answer single (loads_permutation none here of) = on_permutation none here of

pub plain : (l : Layout) (g c : ℕ) (line : Option HeldLine) (s : Stage) (action : Action) (x : ℕ) (turn : Turn Running (Once Placed)) → IsSingle s → IsPlainAfter line turn
    → PlainStep l g s action x (stage_after turn) (reply_of turn) → Plain l g c line s action x turn
plain l g c line s action x turn single after step =
    subst (λ (f : Footing). SparingStep l g c (record { stage = s; line = line; debt = no_debt }) action x f (reply_of turn)) (sym after)
    (plain_foots l g c line s action x (stage_after turn) (reply_of turn) single step)

-- the step of a machine is that of the call that it is
pub wrapped_leads : {M : Type 0} (stage_in : M → Stage) (wrap : M → Running) → ((m : M) → stage_in m ≡ stage_of (wrap m)) → (call : Call) (stage : Stage) (action : Action) (x : ℕ) (turn : Turn M (Once Placed))
    → MachineLeads stage_in call stage action x turn → PlainStep call.view.layout call.view.generation stage action x (stage_after (wrapped wrap turn)) (reply_of (wrapped wrap turn))
wrapped_leads stage_in wrap same call stage action x (Go machine) step = subst (λ (s : Stage). PlainStep call.view.layout call.view.generation stage action x s None) (same machine) step
wrapped_leads stage_in wrap same call stage action x (Done answer) step = steps step

pub loose_single : (s : Stage) → IsLoose s → IsSingle s
loose_single = each_loose IsSingle tt (λ n v w k. tt) (λ n v. tt) (λ n v sight told. tt)

pub walk_by_loose : (limit : Option ℕ) (walk : Walk) → IsLoose (walk_by limit walk)
walk_by_loose None walk = view_loose (walk_watching walk)
walk_by_loose (Some limit) walk = walk_loose walk.generation walk.node walk.at

-- what holds of each stage that holds no node, and of each that holds one, holds all along a look-up
each_held : (P : Stage → Type 0) → ((s : Stage) → IsLoose s → P s) → ((n word : ℕ) (h : Held) → P (Holds n word h)) → (limit : Option ℕ) (n word : ℕ) (kept : Sight) (h : Held) → P (held_by limit n word kept h)
each_held P loose held None n word kept h = loose (Reads n word kept (Some h)) tt
each_held P loose held (Some limit) n word kept h = held n word h

pub each_look : (P : Stage → Type 0) → ((s : Stage) → IsLoose s → P s) → ((n word : ℕ) (h : Held) → P (Holds n word h)) → (kept : Sight) (call : Call) (at : LookupAt) → P (lookup_at_stage kept call at)
each_look P loose held kept call (look.Floor floor) = loose Idle tt
each_look P loose held kept call (look.Walk walk) = loose (walk_by call.limit walk) (walk_by_loose call.limit walk)
each_look P loose held kept call (look.Read seen) = loose (Reads call.node seen.version (sight_in seen) None) tt
each_look P loose held kept call (look.Lock seen locked) = loose (Saw call.node seen.version locked (sight_in seen)) tt
each_look P loose held kept call (look.Clock locked) = held _ _ _
each_look P loose held kept call (look.Spent hold) = held _ _ _
each_look P loose held kept call (look.Bitmap hold) = each_held P loose held call.limit _ _ _ _
each_look P loose held kept call (look.Prints hold bitmap prints k) = each_held P loose held call.limit _ _ _ _
each_look P loose held kept call (look.Name hold directory left slot k) = each_held P loose held call.limit _ _ _ _
each_look P loose held kept call (look.Value hold directory slot) = each_held P loose held call.limit _ _ _ _

pub looks_single : (kept : Sight) (call : Call) (at : LookupAt) → IsSingle (lookup_at_stage kept call at)
looks_single = each_look IsSingle loose_single (λ n word h. tt)
