-- Each turn of a call is a step of a kind.
use Rattle.std.proofs.Common.{◌≡◌, ℕ, ◌/◌, ◌<◌, ◌≤◌, ◌^◌, false, [], ◌∷◌, Option, Some, None, inl, inr, length, get_or, refl, sym, subst, ap, ◌∙◌, arith, ◌⊎◌, ⊎_elim, true, Bool}
use Rattle.cat_history.specs.declared.op.Change.TheVariants as change
use Rattle.pm_words.specs.declared.layout.Layout.{Layout}
use Rattle.pm_words.specs.declared.action.Action.{Action}
use Rattle.pm_words.specs.declared.machine.Turn.{Turn}
use Rattle.pm_words.specs.declared.machine.Turn.TheVariants.{Go, Done}
use Rattle.data_node.specs.Slots.{AreAllLive}
use Rattle.data_node.specs.Bits.{lowest_clear}
use Rattle.data_node.specs.Spots.{Spot}
use Rattle.data_node.proofs.BitLemmas.{lowest_clear-some}
use Rattle.data_node.proofs.StoreLemmas.{means_valued}
use Rattle.call_stages.specs.declared.once.Once.{Once}
use Rattle.call_stages.specs.declared.once.Placed.{Placed}
use Rattle.call_stages.specs.Stages.{Held, Knows, Sight, Stage, Idle, counted}
use Rattle.call_stages.specs.Prevs.{no_debt}
use Rattle.call_stages.specs.declared.once.Once.TheVariants as once
use Rattle.call_stages.specs.declared.view.View.{View}
use Rattle.call_stages.specs.AnySteps.{AnyStep}
use Rattle.call_stages.specs.Footings.{Footing, FootStep}
use Rattle.permutation.specs.Sortings.{Sorts}
use Rattle.permutation.specs.Sparing.{SparingStep}
use Rattle.permutation.proofs.Stores.{sorts_are_steps}
use Rattle.node_ops.specs.Permuting.{part_sorting, sorting_after}
use Rattle.node_ops.specs.declared.part.Way.{Way}
use Rattle.node_ops.specs.declared.part.Way.TheVariants as ways
use Rattle.pm_words.specs.declared.again.Again.TheVariants as again
use Rattle.index_law.proofs.Footings.{foot_any}
use Rattle.split_merge.specs.declared.splitting.Split.{Split}
use Rattle.split_merge.specs.declared.splitting.SplitAt.{SplitAt}
use Rattle.split_merge.specs.declared.splitting.SplitAt.TheVariants as split_at
use Rattle.split_merge.specs.declared.splitting.SplitDone.{SplitDone}
use Rattle.split_merge.specs.declared.splitting.SplitDone.TheVariants as done
use Rattle.split_merge.specs.Splits.{LeadsIn, split_asks, split_at_asks, split_turned}
use Rattle.split_merge.specs.SplitStages.{split_footing, split_at_footing, done_footing}
use Rattle.split_merge.specs.SplitLaws.{MayBegin, SplitsSo}
use Rattle.split_merge.proofs.SplitLaw.{splits_are_steps}
use Rattle.call_stages.specs.Kinds.{Told, LeadsWithin, Step, looks, reads_on, confirms, wavers, commits}
use Rattle.std.specs.Prelude.{IsSome}
use Rattle.std.proofs.Common.{◌==◌, true, cond}
use Rattle.std.proofs.lemmas.Bool.{eqb-true, eqb-false}
use Rattle.node_ops.specs.declared.call.Call.{Call}
use Rattle.node_ops.specs.declared.lookup.Hold.{Hold}
use Rattle.node_ops.specs.declared.lookup.Hit.{Hit}
use Rattle.node_ops.specs.declared.lookup.Found.{Found}
use Rattle.node_ops.specs.declared.lookup.Looked.{Looked}
use Rattle.node_ops.specs.declared.lookup.Looked.TheVariants as looked
use Rattle.node_ops.specs.declared.lookup.Lookup.{Lookup}
use Rattle.node_ops.specs.declared.fill.Fill.{Fill}
use Rattle.node_ops.specs.declared.fill.FillAt.TheVariants as fill_at
use Rattle.node_ops.specs.declared.finish.Finish.{Finish}
use Rattle.node_ops.specs.declared.get.Get.{Get}
use Rattle.node_ops.specs.declared.get.Get.TheVariants as get
use Rattle.node_ops.specs.declared.put.Put.{Put}
use Rattle.node_ops.specs.declared.put.Put.TheVariants as put
use Rattle.node_ops.specs.declared.single_put.SinglePut.TheVariants as single_put
use Rattle.node_ops.specs.declared.del.Del.TheVariants as del
use Rattle.node_ops.specs.declared.single_del.SingleDel.TheVariants as single_del
use Rattle.node_ops.specs.declared.running.Running.{Running}
use Rattle.node_ops.specs.declared.running.Running.TheVariants.{Getting, Putting, Deleting, Parting}
use Rattle.node_ops.specs.Calls.{IsCall, name_in}
use Rattle.pm_words.specs.Fences.{line_of, fence_start}
use Rattle.pm_words.specs.Offsets.{bitmap_offset, prints_offset, slot_offset, value_word}
use Rattle.node_ops.specs.LookupSteps.{IsHit, IsFoundBy, lookup_turned}
use Rattle.node_ops.specs.FinishSteps.{finish_turned}
use Rattle.node_ops.specs.FillSteps.{fill_turned}
use Rattle.node_ops.specs.GetSteps.{IsGet, checked, get_call, get_asks, get_turned, get_looked}
use Rattle.node_ops.specs.PutSteps.{IsPut, put_call, put_asks, put_turned, put_looked, put_into, put_full, put_filled, put_finished, replaced, put_split, IsSplitting}
use Rattle.node_ops.specs.RunningSteps.{running_call, running_asks, running_turned, wrapped, wrapped_part, IsRunning, Sound}
use Rattle.node_ops.specs.Laws.{TurnsAreFootSteps, TurnsAreSteps, LeadsAreTaken}
use Rattle.node_ops.specs.CallStages.{words_from, nothing, knows, decided, fence_rest, seen_hit, seen_fill, get_stage, put_stage, part_stage, stage_of, stage_after, reply_of, found_full, footing_of, footing_after}
use Rattle.node_ops.proofs.SeenLemmas.{Stand, seen_append, seen_front, stand_whole}
use Rattle.node_ops.proofs.LookupLaw.{MachineLeads, steps, hit_words, found_known, Writes_found, Found_by, written_found, Leads, keeps_live, lookup_leads}
use Rattle.node_ops.proofs.FinishLaw.{Finishes, finish_leads}
use Rattle.node_ops.proofs.FillLaw.{Fills, fill_leads}
use Rattle.node_ops.proofs.LookupSound.{SoundLooked, found_by, lookup_stays}
use Rattle.node_ops.proofs.Sparing.{foot_of}
use Rattle.node_ops.proofs.PlainSteps.{hit_words_known, part_hit, Plain, IsSingle, IsPlainAfter, plain, looks_single, wrapped_leads}
use Rattle.node_ops.specs.declared.part.Part.{Part}
use Rattle.node_ops.specs.declared.part.Part.TheVariants as part
use Rattle.node_ops.specs.declared.part.PartWords.{PartWords}
use Rattle.node_ops.specs.PartSteps.{part_asks, part_call, part_turned}
use Rattle.node_ops.proofs.PartLaw.{Parts, StoresNone, StoresOne, part_steps}
use Rattle.node_ops.proofs.DelLaw.{dels_are_steps, merge_leads}
use Rattle.data_list.specs.WalkStages.{live_sight}
use Rattle.node_ops.specs.CallStages.{stage_by}

-- the kinds of step of a turn of a get, and of a put
abbrev Gets : Call → Stage → Action → ℕ → Turn Get (Once Placed) → Type 0
Gets = MachineLeads get_stage

abbrev Puts : Call → Stage → Action → ℕ → Turn Put (Once Placed) → Type 0
Puts = MachineLeads put_stage

module _ (call : Call) (sound : IsCall call) where
  abbrev slots : ℕ
  slots = call.view.layout.slots

  get_looked_leads : call.limit ≡ None → (stage : Stage) (action : Action) (x : ℕ) (turn : Turn Lookup Looked) → Leads (live_sight []) call stage action x turn → Gets call stage action x (get_looked call turn)
  get_looked_leads read stage action x (Go lookup) step = step
  get_looked_leads read stage action x (Done (looked.Early answer)) step = step
  get_looked_leads read stage action x (Done (looked.Found found)) leads =
      let so = subst (λ (o : Option ℕ). Found_by o (live_sight []) call stage action x found) read leads in
      steps (so nothing (λ s known. record { seen = tt; left = tt }))

  -- what is known as the writing into a clear slot begins
  abbrev filling : Found → ℕ → ℕ → Fill
  filling found value slot = record {
    call = call;
    hold = found.hold;
    bitmap = found.directory.bitmap;
    prints = get_or found.directory.prints (slot / 8) 0;
    slot = slot;
    hit = found.hit;
    value = value;
    at = fill_at.Word 0;
  }

  fill_known : (s : Spot) (found : Found) (value slot : ℕ) → length found.directory.prints ≡ 8 → slot < 64 → Knows (name_in call) (found_known call found) s
      → Knows (name_in call) (knows (seen_fill (filling found value slot) (get_or found.directory.prints (slot / 8) 0) 0)) s
  fill_known s found value slot eight small known =
      let prints = found.directory.prints in
      let stands : Stand s prints_offset prints (length prints) = stand_whole s prints_offset prints (seen_front s (words_from prints_offset prints) (hit_words call found.hit) known.seen.1) in
      record {
        seen = (stands (slot / 8) (omega arith), seen_append s (seen_hit call found.directory.bitmap found.hit) [] (part_hit s call found known) tt);
        left = tt;
      }

  put_full_leads : (stage : Stage) (action : Action) (x : ℕ) (found : Found) (hit : Option Hit) (value : ℕ)
      → Writes_found call stage action x (record found { hit = hit }) → Puts call stage action x (Go (put_full call found.hold found.directory.bitmap hit value))
  put_full_leads stage action x found (Some hit) value leads =
      steps (leads (knows (seen_hit call found.directory.bitmap (Some hit))) None false tt
      (λ s known. record { seen = part_hit s call (record found { hit = Some hit }) known; left = tt }) (λ range s m in_range old means. means))
  put_full_leads stage action x found None value leads =
      steps (leads (knows ((bitmap_offset, found.directory.bitmap) ∷ [])) None false tt (λ s known. record { seen = (known.seen.0, tt); left = tt }) (λ range s m in_range old means. means))

  put_into_leads : (stage : Stage) (action : Action) (x : ℕ) (found : Found) (value : ℕ) (clear : Option ℕ) → lowest_clear found.directory.bitmap slots ≡ clear → IsFoundBy slots found
      → Writes_found call stage action x found → Puts call stage action x (Go (put_into call found value clear))
  put_into_leads stage action x found value (Some slot) is sound_found leads =
      let lowest = lowest_clear-some found.directory.bitmap slots slot sound_found.directory.bitmap sound.view.layout.slots.1 is in
      let small : slot < 64 = let within : slot < slots = lowest.within in let few : slots ≤ 64 = sound.view.layout.slots.1 in omega arith in
      steps (leads (knows (seen_fill (filling found value slot) (get_or found.directory.prints (slot / 8) 0) 0)) None false tt
      (λ s known. fill_known s found value slot sound_found.directory.prints small known) (λ range s m in_range old means. means))
  put_into_leads stage action x found value None is sound_found leads = put_full_leads stage action x found found.hit value leads

  put_looked_leads : IsSome call.limit → (stage : Stage) (action : Action) (x value : ℕ) (turn : Turn Lookup Looked) → SoundLooked call turn → Leads (live_sight []) call stage action x turn
      → Puts call stage action x (put_looked call value turn)
  put_looked_leads writes stage action x value (Go lookup) sound_turn step = step
  put_looked_leads writes stage action x value (Done (looked.Early answer)) sound_turn step = step
  put_looked_leads writes stage action x value (Done (looked.Found found)) sound_turn leads =
      put_into_leads stage action x found value (lowest_clear found.directory.bitmap slots) refl (found_by call.limit slots found writes sound_turn)
      (written_found call.limit (live_sight []) call stage action x found writes leads)

  put_filled_leads : (stage : Stage) (action : Action) (x : ℕ) (turn : Turn Fill Finish) → Fills call stage action x turn → Puts call stage action x (put_filled turn)
  put_filled_leads stage action x (Go fill) step = steps step
  put_filled_leads stage action x (Done finish) step = steps step

  put_finished_leads : (stage : Stage) (action : Action) (x : ℕ) (turn : Turn Finish (Once Placed)) → Finishes call stage action x turn → Puts call stage action x (put_finished turn)
  put_finished_leads stage action x (Go finish) step = steps step
  put_finished_leads stage action x (Done answer) step = step

  -- the store of a value in place
  replacing_leads : (hold : Hold) (bitmap : ℕ) (hit : Hit) (value x : ℕ) → IsHit slots bitmap hit → value < 2 ^ 64
      → Step call.view.layout call.view.generation (put_stage (put.Single (single_put.Replacing call hold bitmap hit value))) (put_asks (put.Single (single_put.Replacing call hold bitmap hit value))) x
      (put_stage (put.Single (single_put.Finishing (replaced call hold hit value)))) None
  replacing_leads hold bitmap hit value x is fits =
      let within : hit.slot < slots = is.within in
      commits {h = decided call hold (Some hit.value) (knows (seen_hit call bitmap (Some hit)))} {k = nothing}
      {dirty = fence_rest (line_of (slot_offset hit.slot value_word)) fence_start ∷ []} {old = Some hit.value} {c = change.Put (name_in call) value}
      (sound.node, (omega arith)) (inr (omega arith)) fits (record { pending = refl; ready = refl; placed = refl }) refl (inl (omega arith, omega arith)) refl refl
      (λ s tidy before. record { seen = tt; left = tt })
      (λ range s m in_range before old means.
      let here = hit_words_known s call bitmap hit sound before.seen is.live in
      means_valued slots range s m (name_in call) value hit.slot sound.view.layout.slots.1 sound.packed.named here.0 here.1 means)

-- the second load of the version word
check_leads : (call : Call) → IsCall call → call.limit ≡ None → (hold : Hold) (old : Option ℕ) (x : ℕ)
    → Step call.view.layout call.view.generation (get_stage (get.Checking call hold old)) (get_asks (get.Checking call hold old)) x Idle (Some (checked call hold old x))
check_leads call sound read hold old x =
    elim (x == hold.locked) as (λ b. (x == hold.locked) ≡ b → Step call.view.layout call.view.generation (get_stage (get.Checking call hold old)) (get_asks (get.Checking call hold old)) x Idle
    (Some (cond b (once.Done (record { old = old; place = hold.clock; hops = call.hops })) (once.Again (again.Moved call.node hold.locked x))))) [
      | true ↦ λ same. looks (reads_on (confirms sound.node (eqb-true x hold.locked same) refl read refl refl))
      | false ↦ λ other. looks (reads_on (wavers sound.node (eqb-false x hold.locked other)))
    ] refl

get_leads : (get : Get) (x : ℕ) → IsGet get → Told (get_call get).view.layout (get_call get).view.generation (get_asks get) x → Gets (get_call get) (get_stage get) (get_asks get) x (get_turned get x)
get_leads (get.Looking lookup) x sound told = get_looked_leads lookup.call sound.0.call sound.1 _ _ x (lookup_turned lookup x)
    (lookup_leads (live_sight []) lookup.call sound.0.call lookup.at x sound.0.here (keeps_live lookup.at) told)
get_leads (get.Checking call hold old) x sound told = check_leads call sound.0 sound.1 hold old x

-- it doesn't split
abbrev IsWhole : Put → Type 0
IsWhole (put.Splitting call hold bitmap value split) = ⊥
IsWhole _ = Unit {0}

put_leads : (put : Put) (x : ℕ) → IsWhole put → IsPut put → Told (put_call put).view.layout (put_call put).view.generation (put_asks put) x
    → Puts (put_call put) (put_stage put) (put_asks put) x (put_turned put x)
put_leads (put.Single (single_put.Looking lookup value)) x whole sound told =
    put_looked_leads lookup.call sound.0.call sound.2 _ _ x value (lookup_turned lookup x) (lookup_stays lookup x sound.0 told) (lookup_leads (live_sight []) lookup.call sound.0.call lookup.at x sound.0.here (keeps_live lookup.at) told)
put_leads (put.Single (single_put.Filling fill)) x whole sound told = put_filled_leads fill.call sound.call _ _ x (fill_turned fill x) (fill_leads fill x sound told.fits)
put_leads (put.Single (single_put.Replacing call hold bitmap hit value)) x whole sound told = steps (replacing_leads call sound.call hold bitmap hit value x sound.hit sound.value)
put_leads (put.Single (single_put.Finishing finish)) x whole sound told = put_finished_leads finish.call sound.call _ _ x (finish_turned finish x) (finish_leads finish x sound told.fits)
put_leads (put.Splitting call hold bitmap value split) x whole sound told = absurd whole

get_single : (get : Get) → IsSingle (get_stage get)
get_single (get.Looking lookup) = looks_single (live_sight []) lookup.call lookup.at
get_single (get.Checking call hold old) = tt

put_single : (put : Put) → IsWhole put → IsSingle (put_stage put)
put_single (put.Single (single_put.Looking lookup value)) whole = looks_single (live_sight []) lookup.call lookup.at
put_single (put.Single (single_put.Filling fill)) whole = tt
put_single (put.Single (single_put.Replacing call hold bitmap hit value)) whole = tt
put_single (put.Single (single_put.Finishing finish)) whole = tt
put_single (put.Splitting call hold bitmap value split) whole = absurd whole

-- a get never has a line, and a put has none as it begins to split
gets_plain : (turn : Turn Get (Once Placed)) → IsPlainAfter None (wrapped Getting turn)
gets_plain (Go get) = refl
gets_plain (Done answer) = refl

puts_plain : (put : Put) (x : ℕ) → IsWhole put → IsPlainAfter None (wrapped Putting (put_turned put x))
puts_plain (put.Single (single_put.Looking lookup value)) x whole = at (lookup_turned lookup x)
  where
    full : (found : Found) (hit : Option Hit) → IsPlainAfter None (Go (Putting (put_full lookup.call found.hold found.directory.bitmap hit value)))
    full found (Some hit) = refl
    full found None = refl

    into : (found : Found) (clear : Option ℕ) → IsPlainAfter None (Go (Putting (put_into lookup.call found value clear)))
    into found (Some slot) = refl
    into found None = full found found.hit

    at : (turn : Turn Lookup Looked) → IsPlainAfter None (wrapped Putting (put_looked lookup.call value turn))
    at (Go next) = refl
    at (Done (looked.Early answer)) = refl
    at (Done (looked.Found found)) = into found (lowest_clear found.directory.bitmap lookup.call.view.layout.slots)
puts_plain (put.Single (single_put.Filling fill)) x whole = at (fill_turned fill x)
  where
    at : (turn : Turn Fill Finish) → IsPlainAfter None (wrapped Putting (put_filled turn))
    at (Go next) = refl
    at (Done finish) = refl
puts_plain (put.Single (single_put.Replacing call hold bitmap hit value)) x whole = refl
puts_plain (put.Single (single_put.Finishing finish)) x whole = at (finish_turned finish x)
  where
    at : (turn : Turn Finish (Once Placed)) → IsPlainAfter None (wrapped Putting (put_finished turn))
    at (Go next) = refl
    at (Done answer) = refl
puts_plain (put.Splitting call hold bitmap value split) x whole = absurd whole

-- while it splits, its turns are those of the split
module _ (call : Call) (hold : Hold) (bitmap value : ℕ) (split : Split) (sound : IsSplitting call hold bitmap split) (x : ℕ) where
  abbrev held : Held
  held = found_full call hold bitmap

  abbrev machine : Running
  machine = Putting (put.Splitting call hold bitmap value split)

  abbrev Foots : View → Turn Running (Once Placed) → Type 0
  Foots view turn = SparingStep view.layout view.generation view.caller (split_footing held split) (split_asks split) x (footing_after turn) (reply_of turn)

  begins : MayBegin split.view.layout.slots held
  begins = record {
    claim = record { still = record { pending = refl; ready = refl }; durable = refl; split = record { unplaced = refl; lacked = refl } };
    full = subst (λ (v : View). AreAllLive bitmap v.layout.slots) (sym sound.view) sound.more;
    clock = hold.clock;
    timed = refl;
  }

  foots : (turn : Turn Split SplitDone) → SplitsSo split held x turn → Foots split.view (wrapped Putting (put_split call hold bitmap value turn))
  foots (Go next) so = so.0
  foots (Done (done.Done fresh)) so =
      subst (λ (n : ℕ). SparingStep split.view.layout split.view.generation split.view.caller (split_footing held split) (split_asks split) x done_footing (Some (once.Again (again.NeedsSplit n)))) sound.node so
  foots (Done (done.Again why)) so = so

  splitting_leads : Told call.view.layout call.view.generation (split_asks split) x → LeadsWithin call.view.layout (split_footing held split).stage (split_asks split) x
      → Foots call.view (running_turned machine x)
  splitting_leads told leads =
      subst (λ (v : View). Foots v (running_turned machine x)) sound.view
      (foots (split_turned split x) (splits_are_steps split held x sound.here begins
      (subst (λ (v : View). Told v.layout v.generation (split_asks split) x) (sym sound.view) told)
      (subst (λ (v : View). LeadsWithin v.layout (split_footing held split).stage (split_asks split) x) (sym sound.view) leads)))

put_steps : (put : Put) (x : ℕ) → IsWhole put → IsPut put → Told (put_call put).view.layout (put_call put).view.generation (put_asks put) x
    → Plain (put_call put).view.layout (put_call put).view.generation (put_call put).view.caller None (put_stage put) (put_asks put) x (running_turned (Putting put) x)
put_steps put x whole sound told =
    plain _ _ _ None (put_stage put) _ x (running_turned (Putting put) x) (put_single put whole) (puts_plain put x whole) (wrapped_leads put_stage Putting (λ m. refl) (put_call put) _ _ x (put_turned put x) (put_leads put x whole sound told))

single_by : (way : Way) (n w : ℕ) (kept : Sight) (h : Held) → IsSingle (stage_by way n w kept h)
single_by (ways.Served words) n w kept h = tt
single_by (ways.Held words) n w kept h = tt
single_by ways.Alone n w kept h = tt

pub part_single : (p : Part) → IsSingle (part_stage p)
part_single (part.Looking lookup count) = looks_single (live_sight []) lookup.call lookup.at
part_single (part.Ordering call seen count load) = tt
part_single (part.Locking call seen count locked) = tt
part_single (part.Dating call seen count way) = tt
part_single (part.Reading reading) = single_by reading.way _ _ _ _

parts_plain : (turn : Turn Part (Once PartWords)) → IsPlainAfter None (wrapped_part turn)
parts_plain (Go p) = refl
parts_plain (Done answer) = refl

-- its action stores no word of a permutation
abbrev pub SparesNow : Running → Type 0
SparesNow (Parting p) = StoresNone p
SparesNow _ = Unit {0}

-- a turn of a call that stores none
abbrev Spares : Running → ℕ → Type 0
Spares running x = SparingStep (running_call running).view.layout (running_call running).view.generation (running_call running).view.caller (footing_of running) (running_asks running) x
    (footing_after (running_turned running x)) (reply_of (running_turned running x))

-- or of a part that stores one
abbrev pub StoresPermutation : Running → ℕ → Type 0
StoresPermutation (Parting p) x = StoresOne p x
StoresPermutation _ x = ⊥

own_goes : (running : Running) (x : ℕ) → IsRunning running → Told (running_call running).view.layout (running_call running).view.generation (running_asks running) x
    → LeadsWithin (running_call running).view.layout (stage_of running) (running_asks running) x
    → (Spares running x × SparesNow running) ⊎ StoresPermutation running x
own_goes (Getting get) x sound told leads =
    inl (plain _ _ _ None (get_stage get) _ x (running_turned (Getting get) x) (get_single get) (gets_plain (get_turned get x)) (wrapped_leads get_stage Getting (λ m. refl) (get_call get) _ _ x (get_turned get x) (get_leads get x sound told)), tt)
own_goes (Putting (put.Splitting call hold bitmap value split)) x sound told leads = inl (splitting_leads call hold bitmap value split sound x told leads, tt)
own_goes (Putting (put.Single (single_put.Looking lookup value))) x sound told leads = inl (put_steps (put.Single (single_put.Looking lookup value)) x tt sound told, tt)
own_goes (Putting (put.Single (single_put.Filling fill))) x sound told leads = inl (put_steps (put.Single (single_put.Filling fill)) x tt sound told, tt)
own_goes (Putting (put.Single (single_put.Replacing call hold bitmap hit value))) x sound told leads = inl (put_steps (put.Single (single_put.Replacing call hold bitmap hit value)) x tt sound told, tt)
own_goes (Putting (put.Single (single_put.Finishing finish))) x sound told leads = inl (put_steps (put.Single (single_put.Finishing finish)) x tt sound told, tt)
own_goes (Deleting del) x sound told leads = inl (dels_are_steps del x sound told leads, tt)
own_goes (Parting p) x sound told leads = ⊎_elim
    (λ (goes : Parts (part_call p) (part_stage p) (part_asks p) x (part_turned p x) × StoresNone p).
    inl (plain _ _ _ None (part_stage p) _ x (running_turned (Parting p) x) (part_single p) (parts_plain (part_turned p x)) goes.0, goes.1))
    (λ (one : StoresOne p x). inr one)
    (part_steps p x sound told)

-- on the index of this layout, in this generation
abbrev pub SparesIn : Layout → ℕ → Running → ℕ → Type 0
SparesIn l g running x = SparingStep l g (running_call running).view.caller (footing_of running) (running_asks running) x (footing_after (running_turned running x)) (reply_of (running_turned running x))

pub turns_go : (l : Layout) (g : ℕ) (running : Running) (x : ℕ) → Sound l g running → Told l g (running_asks running) x → LeadsWithin l (stage_of running) (running_asks running) x
    → (SparesIn l g running x × SparesNow running) ⊎ StoresPermutation running x
turns_go l g running x sound told leads =
    let at_layout = subst (λ (n : ℕ). Told l n (running_asks running) x) (sym sound.generation) told in
    ⊎_elim
    (λ (own : Spares running x × SparesNow running). inl (subst (λ (q : Layout × ℕ). SparesIn q.0 q.1 running x) (λ i. (sound.layout i, sound.generation i)) own.0, own.1))
    (λ (one : StoresPermutation running x). inr one)
    (own_goes running x sound.here (subst (λ (k : Layout). Told k (running_call running).view.generation (running_asks running) x) (sym sound.layout) at_layout)
    (subst (λ (k : Layout). LeadsWithin k (stage_of running) (running_asks running) x) (sym sound.layout) leads))

-- a store of a permutation is a step too, which leaves all that its party has
pub stores_uncounted : (p : Part) (x : ℕ) → StoresOne p x → counted (part_stage p) ≡ None
stores_uncounted p x one = ap counted one.holds ∙ ap (λ (b : Bool). elim b [ true ↦ one.held.pending | false ↦ None ]) one.unready

one_foots : (l : Layout) (g : ℕ) (p : Part) (x : ℕ) → (part_call p).view.layout ≡ l → StoresOne p x
    → FootStep l g (part_call p).view.caller (footing_of (Parting p)) (part_asks p) x (footing_after (running_turned (Parting p) x)) (reply_of (running_turned (Parting p) x))
one_foots l g p x layout one =
    let after : footing_after (running_turned (Parting p) x) ≡ record { stage = part_stage p; line = None; debt = no_debt } =
    parts_plain (part_turned p x) ∙ ap (λ (s : Stage). record { stage = s; line = None; debt = no_debt }) one.stage in
    subst (λ (q : Footing × Option (Once Placed)). FootStep l g (part_call p).view.caller (footing_of (Parting p)) (part_asks p) x q.0 q.1) (λ i. (sym after i, sym one.none i))
    (sorts_are_steps l g (part_call p).view.caller (part_stage p) None no_debt (part_sorting p) _ (part_asks p) x
    (subst (λ (k : Layout). Sorts k (part_stage p) (part_sorting p) (part_asks p) (sorting_after (wrapped_part (part_turned p x)))) layout one.sorts) (stores_uncounted p x one))

stored_foots : (l : Layout) (g : ℕ) (running : Running) (x : ℕ) → (running_call running).view.layout ≡ l → StoresPermutation running x
    → FootStep l g (running_call running).view.caller (footing_of running) (running_asks running) x (footing_after (running_turned running x)) (reply_of (running_turned running x))
stored_foots l g (Getting get) x layout one = absurd one
stored_foots l g (Putting put) x layout one = absurd one
stored_foots l g (Deleting del) x layout one = absurd one
stored_foots l g (Parting p) x layout one = one_foots l g p x layout one

pub turns_are_foot_steps : TurnsAreFootSteps
turns_are_foot_steps l g running x sound told leads = ⊎_elim
    (λ (goes : SparesIn l g running x × SparesNow running). foot_of l g (running_call running).view.caller _ _ _ x _ goes.0)
    (λ (one : StoresPermutation running x). stored_foots l g running x sound.layout one)
    (turns_go l g running x sound told leads)

-- the stage of what a call has
pub footing_stage : (running : Running) → (footing_of running).stage ≡ stage_of running
footing_stage (Getting get) = refl
footing_stage (Putting (put.Single (single_put.Looking lookup value))) = refl
footing_stage (Putting (put.Single (single_put.Filling fill))) = refl
footing_stage (Putting (put.Single (single_put.Replacing call hold bitmap hit value))) = refl
footing_stage (Putting (put.Single (single_put.Finishing finish))) = refl
footing_stage (Putting (put.Splitting call hold bitmap value split)) = refl
footing_stage (Deleting (del.Single (single_del.Looking lookup))) = refl
footing_stage (Deleting (del.Single (single_del.Next call hold bitmap hit))) = refl
footing_stage (Deleting (del.Single (single_del.Taking call hold bitmap hit take))) = refl
footing_stage (Deleting (del.Single (single_del.Refusing call hold bitmap hit))) = refl
footing_stage (Deleting (del.Single (single_del.Clearing call hold bitmap hit line))) = refl
footing_stage (Deleting (del.Single (single_del.Finishing finish line))) = refl
footing_stage (Deleting (del.Merging call hold old place merge)) = refl
footing_stage (Parting p) = refl

pub after_stage : (turn : Turn Running (Once Placed)) → (footing_after turn).stage ≡ stage_after turn
after_stage (Go running) = footing_stage running
after_stage (Done answer) = refl

pub turns_are_steps : TurnsAreSteps
turns_are_steps l g running x sound told leads =
    let turn = running_turned running x in
    subst (λ (q : Stage × Stage). AnyStep l g q.0 (running_asks running) x q.1 (reply_of turn)) (λ k. (footing_stage running k, after_stage turn k))
    (foot_any l g (running_call running).view.caller (footing_of running) (footing_after turn) (running_asks running) x (reply_of turn) (turns_are_foot_steps l g running x sound told leads))

-- a node that a split or a merge holds leads to one of the layout's
pub leads_are_taken : LeadsAreTaken
leads_are_taken l g (Getting get) x sound leads = tt
leads_are_taken l g (Parting p) x sound leads = tt
leads_are_taken l g (Deleting (del.Single (single_del.Looking lookup))) x sound leads = tt
leads_are_taken l g (Deleting (del.Single (single_del.Next call hold bitmap hit))) x sound leads = tt
leads_are_taken l g (Deleting (del.Single (single_del.Taking call hold bitmap hit take))) x sound leads = tt
leads_are_taken l g (Deleting (del.Single (single_del.Refusing call hold bitmap hit))) x sound leads = tt
leads_are_taken l g (Deleting (del.Single (single_del.Clearing call hold bitmap hit line))) x sound leads = tt
leads_are_taken l g (Deleting (del.Single (single_del.Finishing finish line))) x sound leads = tt
leads_are_taken l g (Deleting (del.Merging call hold old place merge)) x sound leads = merge_leads l call hold old place merge x sound.here sound.layout leads
leads_are_taken l g (Putting (put.Single (single_put.Looking lookup value))) x sound leads = tt
leads_are_taken l g (Putting (put.Single (single_put.Filling fill))) x sound leads = tt
leads_are_taken l g (Putting (put.Single (single_put.Replacing call hold bitmap hit value))) x sound leads = tt
leads_are_taken l g (Putting (put.Single (single_put.Finishing finish))) x sound leads = tt
leads_are_taken l g (Putting (put.Splitting call hold bitmap value split)) x sound leads = at split.at refl
  where
    layout : split.view.layout ≡ l
    layout = ap (λ (v : View). v.layout) sound.here.view ∙ sound.layout

    at : (at : SplitAt) → split.at ≡ at → LeadsIn split at x
    at split_at.Next is =
        let own : LeadsWithin split.view.layout (split_at_footing (found_full call hold bitmap) split split_at.Next).stage (split_at_asks split split_at.Next) x =
        subst (λ (q : SplitAt). LeadsWithin split.view.layout (split_at_footing (found_full call hold bitmap) split q).stage (split_at_asks split q) x) is
        (subst (λ (k : Layout). LeadsWithin k (split_footing (found_full call hold bitmap) split).stage (split_asks split) x) (sym layout) leads) in
        own.held split.node split.word (found_full call hold bitmap) sound.here.here.node refl refl
    at (split_at.Take next take) is = tt
    at (split_at.Claim next line claim) is = tt
    at (split_at.Read share full count) is = tt
    at (split_at.Move moving) is = tt
    at (split_at.Refuse next why) is = tt
