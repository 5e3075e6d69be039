-- Each turn on a log line is a step on a line, and answers follow from what was told.
use Rattle.std.proofs.Common.{◌≡◌, ◌≢◌, ℕ, zero, suc, ◌+◌, ◌*◌, ◌^◌, ◌<◌, ◌≤◌, ◌==◌, Bool, true, false, cond, ltb}
use Rattle.std.proofs.Common.{List, [], ◌∷◌, Option, Some, None, inl, inr, ⊎_elim, refl, sym, ◌∙◌, subst, ap, arith}
use Rattle.std.specs.Prelude.{slice_index, slice_set}
use Rattle.std.proofs.lemmas.Bool.{cases_eq, eqb-true, eqb-false, ltb-true, ltb-false}
use Rattle.std.proofs.lemmas.List.{get_or-set_same, get_or-set_other}
use Rattle.std.proofs.Math.ListN.{length-set}
use lib.ListN.{get_or}
use Rattle.cat_key.specs.Names.{words_of}
use Rattle.cat_key.proofs.Packing.{get_or-words_of_below, name_bytes}
use Rattle.pm_words.specs.declared.layout.Layout.{Layout}
use Rattle.pm_words.specs.declared.action.Action.{Action}
use Rattle.pm_words.specs.declared.action.Action.TheVariants.{Load, Store}
use Rattle.pm_words.specs.declared.machine.Turn.{Turn}
use Rattle.pm_words.specs.declared.machine.Turn.TheVariants.{Go, Done}
use Rattle.call_stages.specs.data_node.specs.Spots.{Spot, updated}
use Rattle.call_stages.specs.data_node.proofs.SpotLemmas.{updated-same, updated-other}
use Rattle.call_stages.specs.data_node.proofs.LineLemmas.{entry_alike}
use Rattle.call_stages.specs.Stages.{IsAmong, Tells}
use Rattle.call_stages.specs.Kinds.{Soils}
use Rattle.call_stages.specs.Lines.{HeldLine, IsEntry, IsFitLine, TellsDurably, IsBlind, fills, opens, readies, Notes}
use Rattle.call_stages.specs.Lines.{passes_line, takes, looks_up, notes, keeps_safe}
use Rattle.call_stages.specs.AnySteps.{loads_line, stores_line, drains_line}
use Rattle.pm_words.specs.declared.fence.Fence.{Fence}
use Rattle.smo_log.specs.declared.line.Entry.{Entry}
use Rattle.smo_log.specs.declared.take.Taken.{Taken}
use Rattle.smo_log.specs.declared.take.Taken.TheVariants.{Full}
use Rattle.smo_log.specs.declared.take.Take.{Take}
use Rattle.smo_log.specs.declared.take.TakeAt.{TakeAt}
use Rattle.smo_log.specs.declared.take.TakeAt.TheVariants as take_at
use Rattle.smo_log.specs.declared.open.Open.{Open}
use Rattle.smo_log.specs.declared.open.OpenAt.{OpenAt}
use Rattle.smo_log.specs.declared.open.OpenAt.TheVariants as open_at
use Rattle.smo_log.specs.declared.state.Ready.{Ready}
use Rattle.smo_log.specs.declared.state.ReadyAt.{ReadyAt}
use Rattle.smo_log.specs.declared.state.ReadyAt.TheVariants as ready_at
use Rattle.pm_words.specs.Fences.{IsFence, fence_start, fence_next, fence_asks}
use Rattle.pm_words.specs.Codes.{merge_kind, open_state, ready_state, split_kind, empty_state}
use Rattle.pm_words.specs.Offsets.{anchor_offset, state_offset, kind_offset, line_node_offset, left_offset}
use Rattle.smo_log.specs.LogLines.{caller_of, index_of, numbered_address, field_of, IsEntryOf, fields, settled, fenced}
use Rattle.smo_log.specs.Takes.{take_line, take_at_asks, saw_state, take_fenced, take_at_turned, IsTakeAt, IsTake}
use Rattle.smo_log.specs.Takes.{take_at_held, TakeNotes}
use Rattle.smo_log.specs.Opens.{opens_on, open_at_asks, fields_fenced, state_fenced, open_at_turned, IsOpenAt, IsOpen}
use Rattle.smo_log.specs.Opens.{stored, filled_line, open_at_held, OpenNotes}
use Rattle.smo_log.specs.States.{ready_at_asks, ready_fenced, ready_at_turned, IsReadyAt, IsReady, ready_at_held}
use Rattle.smo_log.specs.States.{ReadyNotes}
use Rattle.smo_log.specs.Laws.{TakesAreNotes, OpensAreNotes, ReadiesAreNotes, ReadsAreNotes, NoneEmpty, HasLooked}
use Rattle.smo_log.specs.Laws.{TakeHeeds, TakesHeed, ReadsHeed, NotesAreBeside}
use Rattle.smo_log.specs.Reads.{ReadNotes, ReadsOn, seen_in}
use Rattle.smo_log.proofs.FenceLaw.{Fences, fence_leads}

start_is : IsFence fence_start
start_is = record { word = omega arith; value = tt }

-- the caller of a line is one of the layout's, and has eight lines
pub caller_within : (line callers : ℕ) → line < 8 * callers → caller_of line < callers
caller_within line callers within = omega arith

pub index_within : (line : ℕ) → index_of line < 8
index_within line = omega arith

-- ---- the look for a line

module _ (take : Take) (sound : IsTake take) where
  abbrev line : ℕ
  line = take_line take

  line_within : line < 8 * take.layout.callers
  line_within = let c : take.caller < take.layout.callers = sound.caller in let i : take.index < 8 = sound.index in omega arith

  own : caller_of line ≡ take.caller
  own = let i : take.index < 8 = sound.index in omega arith

  abbrev Took : Option HeldLine → Action → ℕ → Turn Take Taken → Type 0
  Took = TakeNotes take.layout take.caller

  here : caller_of line < take.layout.callers
  here = caller_within line take.layout.callers line_within

  at_state : (x : ℕ) → Took None (Load (numbered_address take.layout line state_offset)) x (saw_state (record take { at = take_at.State }) x)
  at_state x =
      elim (x == empty_state) as (λ b. (x == empty_state) ≡ b → Took None (Load (numbered_address take.layout line state_offset)) x
      (cond b (Go (record take { at = take_at.Fence fence_start })) (cond (ltb (take.index + 1) 8) (Go (record take { index = take.index + 1; at = take_at.State })) (Done Full)))) [
        | true ↦ λ is. (
          subst (λ v. Notes take.layout None (Load (numbered_address take.layout line state_offset)) x (Some (record { caller = caller_of line; number = index_of line; seen = (state_offset, v) ∷ []; dirty = (state_offset, 8) ∷ []; hand = None; ready = false })))
              (eqb-true x empty_state is) (takes here (index_within line) (eqb-true x empty_state is)),
          record { layout = sound.layout; caller = sound.caller; index = sound.index; here = start_is },
          refl,
          refl,
        )
        | false ↦ λ other. elim (ltb (take.index + 1) 8) as (λ b. ltb (take.index + 1) 8 ≡ b → Took None (Load (numbered_address take.layout line state_offset)) x
            (cond b (Go (record take { index = take.index + 1; at = take_at.State })) (Done Full))) [
              | true ↦ λ more. (passes_line here (index_within line) (omega arith), record { layout = sound.layout; caller = sound.caller; index = ltb-true _ _ more; here = tt }, refl, refl)
              | false ↦ λ last. passes_line here (index_within line) (omega arith)
            ] refl
      ] refl

  take_leads : (at : TakeAt) (x : ℕ) → IsTakeAt at → x < 2 ^ 64 → Took (take_at_held line at) (take_at_asks take.layout line at) x (take_at_turned (record take { at = at }) at x)
  take_leads take_at.State x is fits = at_state x
  take_leads (take_at.Fence fence) x is fits = after (fence_next fence x) (fence_leads take.layout false line ((state_offset, empty_state) ∷ []) fence x (λ e. cc) is fits)
    where
      after : (next : Option Fence) → Fences take.layout false line ((state_offset, empty_state) ∷ []) (fence_asks (numbered_address take.layout line fence.word) fence) x fence next
          → Took (Some (fenced false line ((state_offset, empty_state) ∷ []) fence)) (fence_asks (numbered_address take.layout line fence.word) fence) x (take_fenced (record take { at = take_at.Fence fence }) next)
      after (Some next) leads = (leads.0, record { layout = sound.layout; caller = sound.caller; index = sound.index; here = leads.1 }, refl, refl)
      after None leads = (leads, own, line_within)

  module _ (told : ℕ → ℕ) where
    one_more : NoneEmpty told take.index → told take.index ≢ empty_state → NoneEmpty told (take.index + 1)
    one_more none some k within = ⊎_elim (λ same. λ z. some (sym (ap told same) ∙ z)) (λ other. none k (omega arith)) (cases_eq k take.index)

    heeds : (at : TakeAt) (x : ℕ) → (at ≡ take_at.State → x ≡ told take.index) → HasLooked told take.index at → TakeHeeds take.caller told take.index (take_at_turned (record take { at = at }) at x)
    heeds take_at.State x is looked =
        let same : x ≡ told take.index = is refl in
        elim (x == empty_state) as (λ b. (x == empty_state) ≡ b → TakeHeeds take.caller told take.index
        (cond b (Go (record take { at = take_at.Fence fence_start })) (cond (ltb (take.index + 1) 8) (Go (record take { index = take.index + 1; at = take_at.State })) (Done Full)))) [
          | true ↦ λ empty. (looked, sym same ∙ eqb-true x empty_state empty)
          | false ↦ λ other.
              let more = one_more looked (λ z. eqb-false x empty_state other (same ∙ z)) in
              elim (ltb (take.index + 1) 8) as (λ b. ltb (take.index + 1) 8 ≡ b → TakeHeeds take.caller told take.index
              (cond b (Go (record take { index = take.index + 1; at = take_at.State })) (Done Full))) [
                | true ↦ λ on. more
                | false ↦ λ last. let end = ltb-false _ _ last in λ k within. more k (omega arith)
              ] refl
        ] refl
    heeds (take_at.Fence fence) x is looked = after (fence_next fence x)
      where
        after : (next : Option Fence) → TakeHeeds take.caller told take.index (take_fenced (record take { at = take_at.Fence fence }) next)
        after (Some next) = looked
        after None = (refl, sound.index, looked.1, looked.0)

pub takes_are_notes : TakesAreNotes
takes_are_notes take x sound fits = take_leads take sound take.at x sound.here fits

pub takes_heed : TakesHeed
takes_heed take told x sound is looked = heeds take sound told take.at x is looked

-- ---- its opening

-- fields that are stored stay as they are when another word is stored
fields_stay : (entry : Entry) (n offset y : ℕ) (s : Spot) → ((k : ℕ) → 1 ≤ k → k ≤ n → k ≢ offset) → Tells (fields entry n) s → Tells (fields entry n) (updated s offset y)
fields_stay entry zero offset y s apart told = tt
fields_stay entry (suc n) offset y s apart told = (updated-other s offset y (suc n) (apart (suc n) (omega arith) (omega arith)) ∙ told.0, fields_stay entry n offset y s (λ k low high. apart k low (omega arith)) told.1)

-- the stores of the fields may be durable or not
stored_soils : (n : ℕ) → suc n < 8 → Soils (stored n) (suc n) (stored (suc n))
stored_soils zero small = record { stored = inl (omega arith, omega arith); others = λ other among. absurd among }
stored_soils (suc n) small = record { stored = inl (omega arith, omega arith); others = λ other among. ⊎_elim (λ within. inl (within.0, let high : other < 1 + suc n = within.1 in omega arith)) (λ none. absurd none) among }

last_soils : (n : ℕ) → suc n < 8 → Soils (stored n) (suc n) ((state_offset, 8) ∷ [])
last_soils zero small = record { stored = inl (omega arith, omega arith); others = λ other among. absurd among }
last_soils (suc n) small = record { stored = inl (omega arith, omega arith); others = λ other among. ⊎_elim (λ within. inl (omega arith, let high : other < 1 + suc n = within.1 in omega arith)) (λ none. absurd none) among }

-- the state isn't among them
spared : (n : ℕ) → IsAmong (stored n) state_offset → ⊥
spared zero among = among
spared (suc n) among = ⊎_elim (λ within. let low : 1 ≤ 0 = within.0 in absurd (omega arith)) (λ none. none) among

-- fields that are durable are as known
durable_fields : (entry : Entry) (n : ℕ) (s : Spot) → TellsDurably [] (fields entry n) s → Tells (fields entry n) s
durable_fields entry zero s told = tt
durable_fields entry (suc n) s told = (⊎_elim (λ none. absurd none) (λ is. is) told.0, durable_fields entry n s told.1)

-- with these fields and an OPEN or READY state it is in order
fit_entry : (l : Layout) (entry : Entry) (state : ℕ) (s : Spot) → IsEntryOf l entry → state ≤ ready_state → s state_offset ≡ state → Tells (fields entry 7) s → IsEntry l s
fit_entry l entry state s is small at told = record {
  state = let a : s state_offset ≡ state = at in omega arith;
  kind = ⊎_elim (λ one. inl (told.1.1.1.1.1.1.0 ∙ one)) (λ two. inr (told.1.1.1.1.1.1.0 ∙ two)) is.kind;
  node = let node : s line_node_offset ≡ entry.node = told.1.1.1.1.1.0 in let low = is.node.0 in let high = is.node.1 in (omega arith, omega arith);
  name = is.name;
  is_name = is.is_name;
  anchor = (λ k. told.1.1.1.1.0 k ∷ told.1.1.1.0 k ∷ told.1.1.0 k ∷ []) ∙ is.anchor;
  left = let left : s left_offset ≡ entry.left = told.1.0 in let high = is.left in omega arith;
  zero = told.0;
}

pick : {x y : ℕ} (b : Bool) → x < 2 ^ 64 → y < 2 ^ 64 → cond b x y < 2 ^ 64
pick true one other = one
pick false one other = other

module _ (machine : Open) (sound : IsOpen machine) where
  abbrev l : Layout
  l = machine.layout

  abbrev number : ℕ
  number = machine.line

  abbrev entry : Entry
  entry = machine.entry

  on : (held : HeldLine) (action : Action) (x : ℕ) (at : OpenAt) → Notes l (Some held) action x (Some (open_at_held number entry at)) → IsOpenAt at → OpenNotes l number entry held action x (opens_on machine at)
  on held action x at note is = (note, record { layout = sound.layout; line = sound.line; entry = sound.entry; here = is }, refl, refl, refl)

  field_fits : (n : ℕ) → field_of entry (suc n) < 2 ^ 64
  field_fits n =
      let is = sound.entry in
      let nodes : l.nodes ≤ 4096 = sound.layout.nodes.1 in
      let kind : entry.kind < 2 ^ 64 = ⊎_elim (λ one. let k : entry.kind ≡ split_kind = one in omega arith) (λ two. let k : entry.kind ≡ merge_kind = two in omega arith) is.kind in
      let node : entry.node < 2 ^ 64 = let high : entry.node < l.nodes = is.node.1 in omega arith in
      let left : entry.left < 2 ^ 64 = let high : entry.left < l.nodes = is.left in omega arith in
      pick (suc n == kind_offset) kind (pick (suc n == line_node_offset) node (pick (suc n == anchor_offset) (anchor_fits 0 (λ k. slice_index (is.anchor k) 0)) (pick (suc n == anchor_offset + 1) (anchor_fits 1 (λ k. slice_index (is.anchor k) 1))
      (pick (suc n == anchor_offset + 2) (anchor_fits 2 (λ k. slice_index (is.anchor k) 2)) (pick (suc n == left_offset) left (omega arith))))))
    where
      anchor_fits : (k : ℕ) {word : ℕ} → word ≡ slice_index (words_of sound.entry.name) k → word < 2 ^ 64
      anchor_fits k same = let below : get_or (words_of sound.entry.name) k 0 < 2 ^ 64 = get_or-words_of_below sound.entry.name (name_bytes sound.entry.name sound.entry.is_name) k in subst (λ v. v < 2 ^ 64) (sym same) below

  abbrev field_store : ℕ → Action
  field_store n = Store (numbered_address l number (suc n)) (field_of entry (suc n))

  field_told : (n : ℕ) (s : Spot) → Tells ((state_offset, empty_state) ∷ fields entry n) s → Tells ((state_offset, empty_state) ∷ fields entry (suc n)) (updated s (suc n) (field_of entry (suc n)))
  field_told n s told = (
    updated-other s (suc n) (field_of entry (suc n)) 0 (λ z. omega arith) ∙ told.0,
    (updated-same s (suc n) (field_of entry (suc n)), fields_stay entry n (suc n) (field_of entry (suc n)) s (λ k low high z. omega arith) told.1),
  )

  field_fit : (n : ℕ) (s : Spot) → TellsDurably (stored n) ((state_offset, empty_state) ∷ fields entry n) s → IsFitLine l s → IsFitLine l (updated s (suc n) (field_of entry (suc n)))
  field_fit n s told fit = inl (updated-other s (suc n) (field_of entry (suc n)) 0 (λ z. omega arith) ∙ ⊎_elim (λ among. absurd (spared n among)) (λ is. is) told.0)

  field_note : (n x : ℕ) → suc n < 8 → Notes l (Some (filled_line number entry n)) (field_store n) x (Some (filled_line number entry (suc n)))
  field_note n x small = notes small (field_fits n) (fills (λ z. omega arith) refl (λ s told. told.0)) (stored_soils n small) (field_told n) (field_fit n)

  last_note : (n x : ℕ) → suc n ≡ 7 → Notes l (Some (filled_line number entry n)) (field_store n) x (Some (fenced false number ((state_offset, empty_state) ∷ fields entry 7) fence_start))
  last_note n x last =
      subst (λ k. Notes l (Some (filled_line number entry n)) (field_store n) x (Some (fenced false number ((state_offset, empty_state) ∷ fields entry k) fence_start))) last
      (notes (omega arith) (field_fits n) (fills (λ z. omega arith) refl (λ s told. told.0)) (last_soils n (omega arith)) (field_told n) (field_fit n))

  at_field : (n x : ℕ) → suc n < 8 → OpenNotes l number entry (filled_line number entry n) (field_store n) x (open_at_turned machine (open_at.Field (suc n)) x)
  at_field n x small =
      elim (ltb (suc n + 1) 8) as (λ b. ltb (suc n + 1) 8 ≡ b → OpenNotes l number entry (filled_line number entry n) (field_store n) x
      (cond b (opens_on machine (open_at.Field (suc n + 1))) (opens_on machine (open_at.FenceFields fence_start)))) [
        | true ↦ λ more. let next : suc n + 1 ≡ suc (suc n) = omega arith in
            subst (λ k. OpenNotes l number entry (filled_line number entry n) (field_store n) x (opens_on machine (open_at.Field k))) (sym next)
            (on (filled_line number entry n) (field_store n) x (open_at.Field (suc (suc n))) (field_note n x small) (omega arith, let small : suc n + 1 < 8 = ltb-true _ _ more in omega arith))
        | false ↦ λ last. on (filled_line number entry n) (field_store n) x (open_at.FenceFields fence_start) (last_note n x (let end : 8 ≤ suc n + 1 = ltb-false _ _ last in omega arith)) start_is
      ] refl

  at_open : (x : ℕ) → OpenNotes l number entry (settled false number ((state_offset, empty_state) ∷ fields entry 7)) (Store (numbered_address l number state_offset) open_state) x (opens_on machine (open_at.FenceState fence_start))
  at_open x = on (settled false number ((state_offset, empty_state) ∷ fields entry 7)) (Store (numbered_address l number state_offset) open_state) x (open_at.FenceState fence_start)
      (notes (omega arith) (omega arith) (opens refl (λ s told. told.0)) (record { stored = inl (omega arith, omega arith); others = λ other among. absurd among })
      (λ s told. (updated-same s state_offset open_state, fields_stay entry 7 state_offset open_state s (λ k low high z. omega arith) told.1))
      (λ s told fit. inr (fit_entry l entry open_state (updated s state_offset open_state) sound.entry (omega arith) (updated-same s state_offset open_state)
      (fields_stay entry 7 state_offset open_state s (λ k low high z. omega arith) (durable_fields entry 7 s told.1)))))
      start_is

  open_leads : (at : OpenAt) (x : ℕ) → IsOpenAt at → x < 2 ^ 64 → OpenNotes l number entry (open_at_held number entry at) (open_at_asks l number entry at) x (open_at_turned machine at x)
  open_leads (open_at.Field zero) x is fits = let low : 1 ≤ 0 = is.0 in absurd (omega arith)
  open_leads (open_at.Field (suc n)) x is fits = at_field n x is.1
  open_leads (open_at.FenceFields fence) x is fits = after (fence_next fence x) (fence_leads l false number ((state_offset, empty_state) ∷ fields entry 7) fence x (λ e. cc) is fits)
    where
      after : (next : Option Fence) → Fences l false number ((state_offset, empty_state) ∷ fields entry 7) (fence_asks (numbered_address l number fence.word) fence) x fence next
          → OpenNotes l number entry (fenced false number ((state_offset, empty_state) ∷ fields entry 7) fence) (fence_asks (numbered_address l number fence.word) fence) x (fields_fenced machine next)
      after (Some next) leads = on (fenced false number ((state_offset, empty_state) ∷ fields entry 7) fence) (fence_asks (numbered_address l number fence.word) fence) x (open_at.FenceFields next) leads.0 leads.1
      after None leads = on (fenced false number ((state_offset, empty_state) ∷ fields entry 7) fence) (fence_asks (numbered_address l number fence.word) fence) x open_at.State leads tt
  open_leads open_at.State x is fits = at_open x
  open_leads (open_at.FenceState fence) x is fits = after (fence_next fence x) (fence_leads l false number ((state_offset, open_state) ∷ fields entry 7) fence x (λ e. cc) is fits)
    where
      after : (next : Option Fence) → Fences l false number ((state_offset, open_state) ∷ fields entry 7) (fence_asks (numbered_address l number fence.word) fence) x fence next
          → OpenNotes l number entry (fenced false number ((state_offset, open_state) ∷ fields entry 7) fence) (fence_asks (numbered_address l number fence.word) fence) x (state_fenced machine next)
      after (Some next) leads = on (fenced false number ((state_offset, open_state) ∷ fields entry 7) fence) (fence_asks (numbered_address l number fence.word) fence) x (open_at.FenceState next) leads.0 leads.1
      after None leads = leads

pub opens_are_notes : OpensAreNotes
opens_are_notes machine x sound fits = open_leads machine sound machine.at x sound.here fits

-- ---- its other states

-- the fields say nothing of the state
blind_fields : (entry : Entry) → IsBlind (fields entry 7)
blind_fields entry s state told = fields_stay entry 7 state_offset state s (λ k low high z. omega arith) told

module _ (ready : Ready) (entry : Entry) (sound : IsReady ready) where
  ready_stays : (s : Spot) → IsEntry ready.layout s → IsEntry ready.layout (updated s state_offset ready_state)
  ready_stays s is =
      entry_alike ready.layout.nodes s (updated s state_offset ready_state)
      (let at : updated s state_offset ready_state state_offset ≡ ready_state = updated-same s state_offset ready_state in omega arith)
      (λ offset other within. updated-other s state_offset ready_state offset other) is

  ready_leads : (at : ReadyAt) (x : ℕ) → IsReadyAt at → x < 2 ^ 64
      → ReadyNotes ready.layout ready.line entry (ready_at_held ready.line entry at) (ready_at_asks ready.layout ready.line at) x (ready_at_turned ready at x)
  ready_leads ready_at.State x is fits = (
    notes (omega arith) (omega arith) (readies refl refl (λ s told. told.0) (blind_fields entry)) (record { stored = inl (omega arith, omega arith); others = λ other among. absurd among })
        (λ s told. fields_stay entry 7 state_offset ready_state s (λ k low high z. omega arith) told.1)
        (λ s told fit. ⊎_elim
        (λ empty. let open_ : s state_offset ≡ open_state = ⊎_elim (λ none. absurd none) (λ is. is) told.0 in absurd (omega arith))
        (λ is. inr (ready_stays s is)) fit),
    record { layout = sound.layout; line = sound.line; here = start_is },
    refl,
    refl,
  )
  ready_leads (ready_at.Fence fence) x is fits = after (fence_next fence x) (fence_leads ready.layout true ready.line (fields entry 7) fence x (λ e. blind_fields entry) is fits)
    where
      after : (next : Option Fence) → Fences ready.layout true ready.line (fields entry 7) (fence_asks (numbered_address ready.layout ready.line fence.word) fence) x fence next
          → ReadyNotes ready.layout ready.line entry (fenced true ready.line (fields entry 7) fence) (fence_asks (numbered_address ready.layout ready.line fence.word) fence) x (ready_fenced ready next)
      after (Some next) leads = (leads.0, record { layout = sound.layout; line = sound.line; here = leads.1 }, refl, refl)
      after None leads = leads

pub readies_are_notes : ReadiesAreNotes
readies_are_notes ready entry x sound fits = ready_leads ready entry sound ready.at x sound.here fits

pub reads_are_notes : ReadsAreNotes
reads_are_notes read x sound =
    let here = caller_within read.line read.layout.callers sound.line in
    let small = sound.offset in
    let note : Notes read.layout None (Load (numbered_address read.layout read.line read.offset)) x None = passes_line here (index_within read.line) (omega arith) in
    elim (ltb (read.offset + 1) 7) as (λ b. ltb (read.offset + 1) 7 ≡ b → ReadNotes read.layout read.line (Load (numbered_address read.layout read.line read.offset)) x
    (cond b (Go (record read { offset = read.offset + 1; words = slice_set read.words read.offset x })) (Done (seen_in (slice_set read.words read.offset x))))) [
      | true ↦ λ more. (note, record { layout = sound.layout; line = sound.line; offset = ltb-true _ _ more }, refl, refl)
      | false ↦ λ last. note
    ] refl

pub reads_heed : ReadsHeed
reads_heed read told sound has =
    elim (ltb (read.offset + 1) 7) as (λ b. ltb (read.offset + 1) 7 ≡ b → ReadsOn told
    (cond b (Go (record read { offset = read.offset + 1; words = words })) (Done (seen_in words)))) [
      | true ↦ λ more. record { size = length-set read.words read.offset (told read.offset) ∙ has.size; same = same }
      | false ↦ λ last. let end : 7 ≤ read.offset + 1 = ltb-false _ _ last in record {
        state = same state_offset (omega arith);
        kind = same kind_offset (omega arith);
        node = same line_node_offset (omega arith);
        anchor = λ k. same anchor_offset (omega arith) k ∷ same (anchor_offset + 1) (omega arith) k ∷ same (anchor_offset + 2) (omega arith) k ∷ [];
        left = same left_offset (omega arith);
      }
    ] refl
  where
    words : List ℕ
    words = slice_set read.words read.offset (told read.offset)

    same : (offset : ℕ) → offset < read.offset + 1 → slice_index words offset ≡ told offset
    same offset within = ⊎_elim
        (λ (here : offset ≡ read.offset). let small : read.offset < 7 = sound.offset in let size = has.size in
        ap (slice_index words) here ∙ get_or-set_same read.words read.offset (told read.offset) 0 (omega arith) ∙ sym (ap told here))
        (λ (other : offset ≢ read.offset). get_or-set_other read.words read.offset offset (told read.offset) 0 other ∙ has.same offset (omega arith))
        (cases_eq offset read.offset)

-- a step on a line of the layout is one beside nodes
pub notes_beside : NotesAreBeside
notes_beside l line after a x here (passes_line caller low small) = loads_line (caller, low, small)
notes_beside l line after a x here (takes caller low zero_state) = loads_line (caller, low, omega arith)
notes_beside l line after a x here (looks_up small learnt blind) = loads_line (here.0, here.1, small)
notes_beside l line after a x here (notes small fits marks soils told keeps) = stores_line (here.0, here.1, small) fits
notes_beside l line after a x here (keeps_safe small fits hand cleans) = drains_line (here.0, here.1, small) fits
