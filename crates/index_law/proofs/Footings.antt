-- The steps of a party on nodes, lines and prevs keep all that an index has.
use Rattle.std.proofs.Common.{◌≡◌, ◌≢◌, ℕ, ◌<◌, ◌⊎◌, inl, inr, ⊎_elim, List, slice_set, refl, sym, ap, ◌∙◌, subst, arith}
use Rattle.std.specs.Prelude.{Option, Some, None, IfSome}
use Rattle.std.proofs.lemmas.Bool.{cases_eq}
use Rattle.std.proofs.lemmas.List.{set-get_or}
use mathlib.Core.Option.{some, some-injective}
use lib.ListN.{get_elem?}
use Rattle.pm_words.specs.declared.layout.Layout.{Layout}
use Rattle.pm_words.specs.declared.action.Action.{Action}
use Rattle.pm_words.specs.declared.action.Action.TheVariants.{Load}
use Rattle.pm_words.specs.Locations.{Location, Line, Volatile, Cached, Durable, HasLocation, at, Word, address_of}
use Rattle.pm_words.proofs.Apart.{at-set_other}
use Rattle.pm_words.specs.Rows.{acted}
use Rattle.pm_words.specs.Offsets.{state_offset}
use Rattle.pm_words.proofs.Kept.{action_address-drain}
use Rattle.call_stages.specs.Stages.{Stage, counted}
use Rattle.call_stages.specs.Kinds.{Step}
use Rattle.call_stages.specs.Lines.{HeldLine, line_address, Notes, passes_line, takes, looks_up, notes, keeps_safe}
use Rattle.call_stages.specs.AnySteps.{IsOnPermutation, IsBeside, loads_layer, on_permutation, on_nodes, beside}
use Rattle.index_law.specs.Worlds.{Party, World, facts, stepped}
use Rattle.index_law.specs.Laws.{Allowed}
use Rattle.index_law.specs.Lawful.{Lawful}
use Rattle.index_law.specs.Prevs.{prev_in}
use Rattle.index_law.specs.Lines.{line_in, SureLine}
use Rattle.call_stages.specs.Prevs.{Debt, Deals, Prevs}
use Rattle.index_law.specs.Whole.{Whole, IsWhole}
use Rattle.index_law.specs.Footings.{FootStepIsAny, IsInHand, NeedsNoParty, AreTended, stepped_whole, FootStepKeeps}
use Rattle.call_stages.specs.Footings.{Footing, IsKnownEmpty, IsLeftToTurn, KeepsOrLetsGo, FootStep}
use Rattle.call_stages.specs.Footings as foot
use Rattle.index_law.proofs.AnySteps.{set_own, beside_world, beside_keeps, stored_word}
use Rattle.index_law.proofs.Footed.{moved_footed}
use Rattle.index_law.proofs.Noting.{LinesStay, line-alike, nodes_leave_lines, store_leaves}
use Rattle.index_law.proofs.Own.{allow_law, sure_within}
use Rattle.index_law.proofs.Parties.{set_here, set_else}
use Rattle.index_law.proofs.Prevs.{store_prev}
use Rattle.index_law.proofs.Whole.{prev_leaves, whole_node, whole_line, whole_prev}
use Rattle.index_law.proofs.Places as places

pub foot_any : FootStepIsAny
foot_any l g c f t a x r (foot.on_nodes minds kept k deals) = on_nodes k
foot_any l g c f t a x r (foot.on_line waits none is k own) = beside none is
foot_any l g c f t a x r (foot.on_prev none is k) = beside none is
foot_any l g c f t a x r (foot.on_layer none place) = beside none (loads_layer place)
foot_any l g c f t a x r (foot.on_permutation none on) = beside none (on_permutation on)

-- a step on a line leaves the words of every other line
other_stays : (l : Layout) (words : List ℕ) (line : Option HeldLine) (a : Action) (x : ℕ) (after : Option HeldLine) → IfSome line (λ e. (e.caller < l.callers) × (e.number < 8))
    → Notes l line a x after → (c j offset : ℕ) → IfSome line (λ e. (c ≢ e.caller) ⊎ (j ≢ e.number)) → line_in l (acted l words a) c j offset ≡ line_in l words c j offset
other_stays l words line a x after here (passes_line {c = d} {j = k} {offset = o} caller low small) c j offset other = ap (λ v. line_in l v c j offset) (set-get_or words (line_address l d k o) 0)
other_stays l words line a x after here (takes {c = d} {j = k} caller low empty_state) c j offset other = ap (λ v. line_in l v c j offset) (set-get_or words (line_address l d k state_offset) 0)
other_stays l words line a x after here (looks_up {offset = o} {e = e} small learnt blind) c j offset other = ap (λ v. line_in l v c j offset) (set-get_or words (line_address l e.caller e.number o) 0)
other_stays l words line a x after here (notes {y = y} {offset = o} {e = e} small fits marks soils told keeps) c j offset other =
    line-alike l words (slice_set words (line_address l e.caller e.number o) y) c j offset (λ there.
    at-set_other l words (Cached (Line e.caller e.number o)) (Cached (Line c j offset)) y (here.0, here.1, small) there
    (λ same. ⊎_elim (λ n. n (ap places.caller_at same)) (λ n. n (ap places.number_at same)) other))
other_stays l words line a x after here (keeps_safe {y = y} {offset = o} {e = e} small fits hand cleans) c j offset other =
    line-alike l words (acted l words a) c j offset (λ there.
    ap (λ q. at l (slice_set words q y) (Cached (Line c j offset))) (action_address-drain l (Line e.caller e.number o) y)
    ∙ at-set_other l words (Durable (Line e.caller e.number o)) (Cached (Line c j offset)) y (here.0, here.1, small) there (λ same. cc))

-- a step on a line doesn't let it go
line_kept : (l : Layout) (e : HeldLine) (a : Action) (x : ℕ) (after : Option HeldLine) → Notes l (Some e) a x after
    → (d : HeldLine) × (after ≡ Some d) × (d.caller ≡ e.caller) × (d.number ≡ e.number)
line_kept l e a x after (looks_up {x = y} {offset = o} {seen = seen} small learnt blind) = (record e { seen = seen; hand = Some (o, y) }, refl, refl, refl)
line_kept l e a x after (notes {seen = seen} {dirty = dirty} {ready = ready} small fits marks soils told keeps) = (record e { seen = seen; dirty = dirty; hand = None; ready = ready }, refl, refl, refl)
line_kept l e a x after (keeps_safe {dirty = dirty} small fits hand cleans) = (record e { dirty = dirty; hand = None }, refl, refl, refl)

abbrev caller_at : Option HeldLine → ℕ
caller_at None = 0
caller_at (Some e) = e.caller

abbrev number_at : Option HeldLine → ℕ
number_at None = 0
number_at (Some e) = e.number

cases_both : (c j : ℕ) (e : HeldLine) → ((c ≡ e.caller) × (j ≡ e.number)) ⊎ ((c ≢ e.caller) ⊎ (j ≢ e.number))
cases_both c j e = ⊎_elim
    (λ (one : c ≡ e.caller). ⊎_elim (λ (two : j ≡ e.number). inl (one, two)) (λ other. inr (inr other)) (cases_eq j e.number))
    (λ other. inr (inl other))
    (cases_eq c e.caller)

-- a line that is let go needs no party
let_go : (l : Layout) (words : List ℕ) (next : Stage) (e : HeldLine) → SureLine l words e → IsKnownEmpty e ⊎ IsLeftToTurn next e → NeedsNoParty (line_in l words e.caller e.number state_offset)
let_go l words next e sure (inl empty) = inl (empty (line_in l words e.caller e.number) sure.seen)
let_go l words next e sure (inr left) = (sure.waits left.ready).state

module _ (z : Whole) (i : ℕ) (p : Party) (whole : IsWhole z) (tended : AreTended z) (there : get_elem? z.world.parties i ≡ some p) where
  abbrev l : Layout
  l = z.world.layout

  -- what is in a hand stays there, if the party keeps its line
  still : (line after : Option HeldLine) (w : World) (debts : List Debt) → get_elem? z.lines i ≡ some line → (c j : ℕ)
      → ((e : HeldLine) → line ≡ Some e → e.caller ≡ c → e.number ≡ j → (d : HeldLine) × (after ≡ Some d) × (d.caller ≡ c) × (d.number ≡ j))
      → IsInHand z c j → IsInHand (record { world = w; lines = slice_set z.lines i after; debts = debts }) c j
  still line after w debts at c j kept hand = ⊎_elim
      (λ (same : hand.number ≡ i).
      let own : line ≡ Some hand.line = some-injective _ _ (sym at ∙ ap (get_elem? z.lines) (sym same) ∙ hand.there) in
      let d = kept hand.line own hand.caller hand.index in
      record { number = i; line = d.0; there = set_here z.lines i after line at ∙ ap some d.1; caller = d.2; index = d.3 })
      (λ (other : hand.number ≢ i). record { number = hand.number; line = hand.line; there = set_else z.lines i hand.number after other ∙ hand.there; caller = hand.caller; index = hand.index })
      (cases_eq hand.number i)

  -- a step that leaves all lines
  tended_same : (next : Stage) (line after : Option HeldLine) (w : World) (debts : List Debt) → w.layout ≡ l → get_elem? z.lines i ≡ some line → KeepsOrLetsGo next line after
      → ((c j : ℕ) → line_in l w.words c j state_offset ≡ line_in l z.world.words c j state_offset)
      → AreTended (record { world = w; lines = slice_set z.lines i after; debts = debts })
  tended_same next line after w debts same at kept stays c j here low =
      ⊎_elim (λ none. inl (stands none)) (of kept) (tended c j (subst (λ (k : Layout). c < k.callers) same here) low)
    where
      stands : NeedsNoParty (line_in l z.world.words c j state_offset) → NeedsNoParty (line_in w.layout w.words c j state_offset)
      stands = subst NeedsNoParty (sym (ap (λ (k : Layout). line_in k w.words c j state_offset) same ∙ stays c j))

      of : KeepsOrLetsGo next line after → IsInHand z c j → NeedsNoParty (line_in w.layout w.words c j state_offset) ⊎ IsInHand (record { world = w; lines = slice_set z.lines i after; debts = debts }) c j
      of (inl keeps) hand = inr (still line after w debts at c j (λ e is caller number. (e, keeps ∙ is, caller, number)) hand)
      of (inr lets) hand = ⊎_elim
          (λ (own : hand.number ≡ i).
          let is : line ≡ Some hand.line = some-injective _ _ (sym at ∙ ap (get_elem? z.lines) (sym own) ∙ hand.there) in
          let left = subst (λ (o : Option HeldLine). IfSome o (λ e. IsKnownEmpty e ⊎ IsLeftToTurn next e)) is lets.1 in
          let none = let_go l z.world.words next hand.line (whole.joint.sure hand.number hand.line hand.there) left in
          inl (stands (subst (λ (n : ℕ × ℕ). NeedsNoParty (line_in l z.world.words n.0 n.1 state_offset)) (λ k. (hand.caller k, hand.index k)) none)))
          (λ (other : hand.number ≢ i). inr (record { number = hand.number; line = hand.line; there = set_else z.lines i hand.number after other ∙ hand.there; caller = hand.caller; index = hand.index }))
          (cases_eq hand.number i)

-- where a step beside nodes leaves the world but for words
beside_parties : (z : Whole) (i : ℕ) (p : Party) (a : Action) → IsWhole z → get_elem? z.world.parties i ≡ some p → counted p.stage ≡ None → IsBeside z.world.layout a
    → stepped z.world i p a p.stage ≡ record (z.world) { words = acted z.world.layout z.world.words a }
beside_parties z i p a whole there none is = (beside_keeps z.world i p a whole.joint.lawful there none is).world

-- the load of a word of the search layer leaves all as it is
pub layer_load_stays : (z : Whole) (i : ℕ) (p : Party) (foot : Footing) (v : Word) → get_elem? z.world.parties i ≡ some p → get_elem? z.lines i ≡ some foot.line → get_elem? z.debts i ≡ some foot.debt
    → p.stage ≡ foot.stage → counted foot.stage ≡ None → stepped_whole z i p (Load (address_of z.world.layout (Cached v))) foot ≡ z
layer_load_stays z i p foot v there at owing stage none =
    let w = z.world in
    let a : Action = Load (address_of w.layout (Cached v)) in
    let words : acted w.layout w.words a ≡ w.words = set-get_or w.words (address_of w.layout (Cached v)) 0 in
    let world : stepped w i p a foot.stage ≡ w =
    ap (stepped w i p a) (sym stage) ∙ beside_world w i p a there (ap counted stage ∙ none) ∙ ap (λ (ws : List ℕ). record w { words = ws }) words in
    let lines : slice_set z.lines i foot.line ≡ z.lines = set_own z.lines i foot.line at in
    let debts : slice_set z.debts i foot.debt ≡ z.debts = set_own z.debts i foot.debt owing in
    λ k. record { world = world k; lines = lines k; debts = debts k }

-- a load or a store of a permutation leaves prevs and lines
pub permutation_leaves : (l : Layout) (words : List ℕ) (a : Action) → IsOnPermutation l a
    → ((n : ℕ) → prev_in l (acted l words a) n ≡ prev_in l words n) × ((c j offset : ℕ) → LinesStay l words (acted l words a) c j offset)
permutation_leaves l words a on =
    let at_word = stored_word l words a on in
    let p : Location = Volatile at_word.node at_word.offset in
    let has : HasLocation l (Volatile at_word.node at_word.offset) = (at_word.here, at_word.most) in (
      λ n. ap (λ v. prev_in l v n) at_word.is ∙ store_prev l words p at_word.word has (λ k e. let no : 1 ≡ at_word.offset = ap volatile_offset e in let least = at_word.least in omega arith) n,
      λ c j offset. subst (λ v. LinesStay l words v c j offset) (sym at_word.is) (store_leaves l words p at_word.word has (λ c j o. (λ e. cc, λ e. cc)) c j offset),
    )
  where
    volatile_offset : Location → ℕ
    volatile_offset (Volatile n o) = o
    volatile_offset _ = 0

pub foot_keeps : FootStepKeeps
foot_keeps z i p f t a x r whole tended there at owing stage (foot.on_nodes {stage = s} {next = next} {line = line} {after = after} {debt = d} {debt' = d'} minds kept k deals) told room =
    let w = z.world in
    let k' = subst (λ (u : Stage). Step w.layout w.generation u a x next r) (sym stage) k in
    let deals' = subst (λ (u : Stage). Deals u next d d') (sym stage) deals in
    let kept' : (after ≡ line) ⊎ (after ≡ None) = ⊎_elim (λ keeps. inl keeps) (λ lets. inr lets.0) kept in
    let sure = whole.joint.lawful.sure i p there in
    let allowed : Allowed w.layout p.stage a = allow_law w.layout w.generation p.stage a x next r (sure_within w.layout w.generation (facts w) p.caller p.index p.since p.stage sure) k' in (
      whole_node z i p a x next r line after d d' whole there at owing kept' k' told room deals',
      tended_same z i p whole tended there next line after (stepped w i p a next) (slice_set z.debts i d') refl at kept (λ c j. (nodes_leave_lines w.layout w.words p.stage a c j state_offset allowed).0),
    )
foot_keeps z i p f t a x r whole tended there at owing stage (foot.on_line {stage = s} {line = line} {after = after} {debt = d} waits none is k own) told room =
    let w = z.world in
    let none' : counted p.stage ≡ None = ap counted stage ∙ none in
    let world : stepped w i p a s ≡ record w { words = acted w.layout w.words a } = ap (stepped w i p a) (sym stage) ∙ beside_parties z i p a whole there none' is in
    let debts : slice_set z.debts i d ≡ z.debts = set_own z.debts i d owing in
    let same : Path Whole (record { world = record w { words = acted w.layout w.words a }; lines = slice_set z.lines i after; debts = z.debts }) (stepped_whole z i p a t) =
    λ n. record { world = sym world n; lines = slice_set z.lines i after; debts = sym debts n } in (
      subst IsWhole same (whole_line z i p a x line after whole there at k own told),
      subst AreTended same (on_line line at k),
    )
  where
    on_line : (line : Option HeldLine) → get_elem? z.lines i ≡ some line → Notes z.world.layout line a x after
        → AreTended (record { world = record (z.world) { words = acted z.world.layout z.world.words a }; lines = slice_set z.lines i after; debts = z.debts })
    on_line None at k c j here low = ⊎_elim
        (λ none. inl (subst NeedsNoParty (sym (other_stays z.world.layout z.world.words None a x after tt k c j 0 tt)) none))
        (λ hand. inr (still z i p whole tended there None after (record (z.world) { words = acted z.world.layout z.world.words a }) z.debts at c j (λ e is. absurd (cc)) hand))
        (tended c j here low)
    on_line (Some e) at k c j here low =
        let kept = line_kept z.world.layout e a x after k in
        let sure = whole.joint.sure i e at in
        ⊎_elim
        (λ (own : (c ≡ e.caller) × (j ≡ e.number)). inr (record { number = i; line = kept.0; there = set_here z.lines i after (Some e) at ∙ ap some kept.1; caller = kept.2 ∙ sym own.0; index = kept.3 ∙ sym own.1 }))
        (λ (other : (c ≢ e.caller) ⊎ (j ≢ e.number)). ⊎_elim
        (λ none. inl (subst NeedsNoParty (sym (other_stays z.world.layout z.world.words (Some e) a x after sure.here k c j 0 other)) none))
        (λ hand. inr (still z i p whole tended there (Some e) after (record (z.world) { words = acted z.world.layout z.world.words a }) z.debts at c j
        (λ d is caller number. (kept.0, kept.1, kept.2 ∙ ap (λ (o : Option HeldLine). caller_at o) is ∙ caller, kept.3 ∙ ap (λ (o : Option HeldLine). number_at o) is ∙ number)) hand))
        (tended c j here low))
        (cases_both c j e)
foot_keeps z i p f t a x r whole tended there at owing stage (foot.on_prev {stage = s} {line = line} {debt = d} {debt' = d'} none is k) told room =
    let w = z.world in
    let none' : counted p.stage ≡ None = ap counted stage ∙ none in
    let k' : Prevs w.layout p.stage d a d' = subst (λ (u : Stage). Prevs w.layout u d a d') (sym stage) k in
    let world : stepped w i p a s ≡ record w { words = acted w.layout w.words a } = ap (stepped w i p a) (sym stage) ∙ beside_parties z i p a whole there none' is in
    let lines : slice_set z.lines i line ≡ z.lines = set_own z.lines i line at in
    let same : Path Whole (record { world = record w { words = acted w.layout w.words a }; lines = z.lines; debts = slice_set z.debts i d' }) (stepped_whole z i p a t) =
    λ n. record { world = sym world n; lines = sym lines n; debts = slice_set z.debts i d' } in
    let stays = prev_leaves (record { world = w; debts = z.debts }) i p p.stage a d d' whole.traced there owing (whole.traced.lawful.sure i p there) k' in (
      subst IsWhole same (whole_prev z i p a d d' whole there owing k'),
      tended_same z i p whole tended there s line line (stepped w i p a s) (slice_set z.debts i d') refl at (inl refl) (λ c j. (stays c j 0).0),
    )
foot_keeps z i p f t a x r whole tended there at owing stage (foot.on_layer {stage = s} {line = line} {debt = d} {w = v} none place) told room =
    let stays = layer_load_stays z i p (record { stage = s; line = line; debt = d }) v there at owing stage none in
    (subst IsWhole (sym stays) whole, subst AreTended (sym stays) tended)
foot_keeps z i p f t a x r whole tended there at owing stage (foot.on_permutation {stage = s} {line = line} {debt = d} none on) told room =
    let w = z.world in
    let l = w.layout in
    let words : List ℕ = acted l w.words a in
    let none' : counted p.stage ≡ None = ap counted stage ∙ none in
    let kept = beside_keeps w i p a whole.joint.lawful there none' (on_permutation on) in
    let world : stepped w i p a s ≡ record w { words = words } = ap (stepped w i p a) (sym stage) ∙ beside_parties z i p a whole there none' (on_permutation on) in
    let stays = permutation_leaves l w.words a on in
    let moved = moved_footed z words w.parties (whole, tended) (subst Lawful kept.world kept.kept)
    (record { forth = λ j q there. (q, there, refl, refl); back = λ j q there. (q, there, refl, refl) })
    (sym (ap facts kept.world) ∙ kept.facts) stays.0 stays.1 in
    let same : Path Whole (record z { world = record w { words = words } }) (stepped_whole z i p a t) =
    λ n. record { world = sym world n; lines = sym (set_own z.lines i line at) n; debts = sym (set_own z.debts i d owing) n } in
    (subst IsWhole same moved.0, subst AreTended same moved.1)
