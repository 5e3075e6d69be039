-- Steps beside nodes, and with them all steps of a party.
use Rattle.std.proofs.Common.{◌≡◌, ◌≢◌, ℕ, ◌<◌, ◌^◌, inl, inr, append-nil, List, [], ◌∷◌, ◌++◌, ◌+◌, length, set}
use Rattle.std.proofs.Common.{slice_index, slice_set, zero, suc, refl, sym, ap, ◌∙◌, subst, arith, true, false}
use Rattle.std.specs.Prelude.{Option, None}
use Rattle.std.proofs.lemmas.List.{set-get_or}
use mathlib.Core.Option.{some, some-injective}
use lib.ListN.{get_elem?}
use Rattle.pm_words.specs.declared.layout.Layout.{Layout}
use Rattle.pm_words.specs.declared.action.Action.{Action}
use Rattle.pm_words.specs.declared.action.Action.TheVariants.{Load, Add}
use Rattle.pm_words.specs.Locations.{Word, Node, Line, Location, Volatile, Cached, Durable, Clock, HasLocation}
use Rattle.pm_words.specs.Locations.{address_of}
use Rattle.pm_words.specs.Rows.{IsRow, CanAct, acted, got}
use Rattle.pm_words.proofs.Apart.{addresses_within, addresses_apart, at-set_other}
use Rattle.pm_words.proofs.Kept.{action_address-drain, acted_row, outside_header, names_cached, keeps_header}
use Rattle.pm_words.specs.Offsets.{version_offset, next_offset, state_offset, status_offset, prev_offset}
use Rattle.cat_history.specs.declared.op.Change.{Change}
use Rattle.call_stages.specs.Stages.{Stage, HoldsNode, counted}
use Rattle.call_stages.specs.Kinds.{HasWordAt, word_address, status_address, clock_address}
use Rattle.call_stages.specs.Lines.{line_address}
use Rattle.call_stages.specs.AnySteps.{IsBeside, loads_line, stores_line, drains_line, stores_prev, loads_layer}
use Rattle.call_stages.specs.AnySteps.{on_permutation, IsOnPermutation, loads, stores, IsOfPermutation}
use Rattle.call_stages.specs.AnySteps.{volatile_address, on_nodes, beside}
use Rattle.index_law.specs.Facts.{Facts, range_of}
use Rattle.index_law.specs.Worlds.{Party, World, facts, stepped, written}
use Rattle.index_law.specs.Lawful.{Lawful}
use Rattle.index_law.specs.Laws.{Counts}
use Rattle.index_law.specs.AnySteps.{AnyIsAllowed, AnyCanAct, BesideKeeps, AnyStepKeeps, AnyStepWeighs, HeldRangesStay}
use Rattle.index_law.specs.Weights.{index_weight, lowered_sum, weight_sum}
use Rattle.index_law.proofs.Actions.{action_law, told_leads, told_held, told_met}
use Rattle.index_law.proofs.Law.{step_law}
use Rattle.index_law.proofs.Locks.{steadies}
use Rattle.index_law.proofs.Moves.{gives, facts_step}
use Rattle.index_law.proofs.Noting.{beside_law}
use Rattle.index_law.proofs.Own.{allow_law}
use Rattle.index_law.proofs.Rows.{facts-elsewhere}
use Rattle.index_law.proofs.Twins.{IsNearer, IsAside}
use Rattle.index_law.proofs.Weights.{step_weighs}
use Rattle.call_stages.specs.layer_map.specs.Places.{is_of_layer}

-- a word of a row in place of itself
pub set_own : {A : Type 0} (l : List A) (i : ℕ) (a : A) → get_elem? l i ≡ some a → set l i a ≡ l
set_own [] i a there = refl
set_own (x ∷ xs) zero a there = ap (λ (y : _). y ∷ xs) (sym (some-injective _ _ there))
set_own (x ∷ xs) (suc i) a there = ap (λ (ys : _). x ∷ ys) (set_own xs i a there)

abbrev line_of : Location → Word
line_of (Cached v) = v
line_of (Durable v) = v
line_of _ = Line 0 0 state_offset

abbrev offset_in : Location → ℕ
offset_in (Volatile n o) = o
offset_in _ = 0

-- an action on a permutation stores a volatile word of a node, past the stamp; a load stores the word that is there
pub record IsStored (l : Layout) (words : List ℕ) (a : Action) : Type 0 where
  pub node : ℕ
  pub offset : ℕ
  pub word : ℕ
  pub here : node < l.nodes
  pub least : 2 < offset
  pub most : offset < 16
  pub is : acted l words a ≡ slice_set words (address_of l (Volatile node offset)) word

above : (offset : ℕ) → IsOfPermutation offset → (2 < offset) × (offset < 16)
above offset (inl version) = (omega arith, omega arith)
above offset (inr word) = let least = word.0 in let most = word.1 in (omega arith, omega arith)

pub stored_word : (l : Layout) (words : List ℕ) (a : Action) → IsOnPermutation l a → IsStored l words a
stored_word l words a (loads {n = n} {offset = offset} here of) =
    let both = above offset of in
    record { node = n; offset = offset; word = slice_index words (volatile_address l n offset); here = here; least = both.0; most = both.1; is = refl }
stored_word l words a (stores {n = n} {offset = offset} {y = y} here of fits) =
    let both = above offset of in
    record { node = n; offset = offset; word = y; here = here; least = both.0; most = both.1; is = refl }

module _ (w : World) (lawful : Lawful w) where
  abbrev l : Layout
  l = w.layout

  -- a store beside nodes: at a word of a line, in either row, or at a prev
  module _ (p : Location) (y : ℕ) (has : HasLocation l p) (clock : p ≢ Clock)
      (cached : (v : Word) → p ≡ Cached v → IsAside v) (durable : (v : Word) → p ≡ Durable v → IsAside v)
      (status : (n : ℕ) → p ≢ Volatile n status_offset) where
    abbrev words : List ℕ
    words = slice_set w.words (address_of l p) y

    apart : (n offset : ℕ) → p ≢ Cached (Node n offset)
    apart n offset same = cached (Node n offset) same

    same_facts : facts (record w { words = words }) ≡ facts w
    same_facts = facts-elsewhere l w.words w.base w.history p y has (apart, status)

    near : IsNearer l w.words words
    near v there other = inl (at-set_other l w.words p (Durable v) y has there (λ same. other (durable v (sym same))))

    stored : (a : Action) → CanAct l w.words a → acted l w.words a ≡ words → Lawful (record w { words = words })
    stored a can is = beside_law w words lawful (subst (λ v. IsRow l v) is (acted_row l w.words a lawful.row can)) same_facts near
        (at-set_other l w.words p Clock y has tt (λ same. clock (sym same)))
        (λ v there none. at-set_other l w.words p (Cached v) y has there (λ same. none (cached v (sym same))))

  -- the action can be done
  beside_can : (a : Action) → IsBeside l a → CanAct l w.words a
  beside_can a (loads_line {c = c} {j = j} {offset = offset} has) = (addresses_within l (Cached (Line c j offset)) has, tt)
  beside_can a (stores_line {c = c} {j = j} {offset = offset} has fits) =
      ((addresses_within l (Cached (Line c j offset)) has, outside_header l (Cached (Line c j offset)) has (λ k lt. (λ e. cc, λ e. cc))), fits)
  beside_can a (drains_line {c = c} {j = j} {offset = offset} {y = y} has fits) =
      ((names_cached l (Line c j offset) has, keeps_header l (Line c j offset) y has (λ k lt e. cc)), fits)
  beside_can a (stores_prev {n = n} here fits) =
      ((addresses_within l (Volatile n prev_offset) (here, omega arith), outside_header l (Volatile n prev_offset) (here, omega arith) (λ k lt. (λ e. cc, λ e. cc))), fits)
  beside_can a (loads_layer {w = v} place) = (addresses_within l (Cached v) place.there, tt)
  beside_can a (on_permutation (loads {n = n} {offset = offset} here of)) = (addresses_within l (Volatile n offset) (here, (above offset of).1), tt)
  beside_can a (on_permutation (stores {n = n} {offset = offset} here of fits)) =
      let has : HasLocation l (Volatile n offset) = (here, (above offset of).1) in
      ((addresses_within l (Volatile n offset) has, outside_header l (Volatile n offset) has (λ k lt. (λ e. cc, λ e. cc))), fits)

  -- no permutation is a status
  past_status : (n offset : ℕ) → 2 < offset → (m : ℕ) → Volatile n offset ≢ Volatile m status_offset
  past_status n offset least m same = let no : offset ≡ status_offset = ap offset_in same in omega arith

  beside_lawful : (a : Action) → IsBeside l a → Lawful (record w { words = acted l w.words a })
  beside_lawful a (loads_line {c = c} {j = j} {offset = offset} has) =
      subst (λ v. Lawful (record w { words = v })) (sym (set-get_or w.words (line_address l c j offset) 0)) lawful
  beside_lawful a (stores_line {c = c} {j = j} {offset = offset} {y = y} has fits) =
      stored (Cached (Line c j offset)) y has (λ e. cc) (λ v e. subst IsAside (ap line_of e) tt) (λ v e. cc) (λ n e. cc) a (beside_can a (stores_line has fits)) refl
  beside_lawful a (drains_line {c = c} {j = j} {offset = offset} {y = y} has fits) =
      let is : acted l w.words a ≡ slice_set w.words (address_of l (Durable (Line c j offset))) y = ap (λ q. slice_set w.words q y) (action_address-drain l (Line c j offset) y) in
      subst (λ v. Lawful (record w { words = v })) (sym is)
      (stored (Durable (Line c j offset)) y has (λ e. cc) (λ v e. cc) (λ v e. subst IsAside (ap line_of e) tt) (λ n e. cc) a (beside_can a (drains_line has fits)) is)
  beside_lawful a (stores_prev {n = n} {y = y} here fits) =
      stored (Volatile n prev_offset) y (here, omega arith) (λ e. cc) (λ v e. cc) (λ v e. cc) (λ m e. let no : 1 ≡ 0 = ap offset_in e in omega arith) a (beside_can a (stores_prev here fits)) refl
  beside_lawful a (loads_layer {w = v} place) = subst (λ ws. Lawful (record w { words = ws })) (sym (set-get_or w.words (address_of l (Cached v)) 0)) lawful
  beside_lawful a (on_permutation on) =
      let at_word = stored_word l w.words a on in
      subst (λ v. Lawful (record w { words = v })) (sym at_word.is)
      (stored (Volatile at_word.node at_word.offset) at_word.word (at_word.here, at_word.most) (λ e. cc) (λ v e. cc) (λ v e. cc) (past_status at_word.node at_word.offset at_word.least) a (beside_can a (on_permutation on)) at_word.is)

  beside_facts : (a : Action) → IsBeside l a → facts (record w { words = acted l w.words a }) ≡ facts w
  beside_facts a (loads_line {c = c} {j = j} {offset = offset} has) = ap (λ v. facts (record w { words = v })) (set-get_or w.words (line_address l c j offset) 0)
  beside_facts a (stores_line {c = c} {j = j} {offset = offset} {y = y} has fits) =
      same_facts (Cached (Line c j offset)) y has (λ e. cc) (λ v e. subst IsAside (ap line_of e) tt) (λ v e. cc) (λ n e. cc)
  beside_facts a (drains_line {c = c} {j = j} {offset = offset} {y = y} has fits) =
      ap (λ v. facts (record w { words = v })) (ap (λ q. slice_set w.words q y) (action_address-drain l (Line c j offset) y))
      ∙ same_facts (Durable (Line c j offset)) y has (λ e. cc) (λ v e. cc) (λ v e. subst IsAside (ap line_of e) tt) (λ n e. cc)
  beside_facts a (stores_prev {n = n} {y = y} here fits) =
      same_facts (Volatile n prev_offset) y (here, omega arith) (λ e. cc) (λ v e. cc) (λ v e. cc) (λ m e. let no : 1 ≡ 0 = ap offset_in e in omega arith)
  beside_facts a (loads_layer {w = v} place) = ap (λ ws. facts (record w { words = ws })) (set-get_or w.words (address_of l (Cached v)) 0)
  beside_facts a (on_permutation on) =
      let at_word = stored_word l w.words a on in
      ap (λ v. facts (record w { words = v })) at_word.is
      ∙ same_facts (Volatile at_word.node at_word.offset) at_word.word (at_word.here, at_word.most) (λ e. cc) (λ v e. cc) (λ v e. cc) (past_status at_word.node at_word.offset at_word.least)

-- the world that such a step leaves
pub beside_world : (w : World) (i : ℕ) (p : Party) (a : Action) → get_elem? w.parties i ≡ some p → counted p.stage ≡ None
    → stepped w i p a p.stage ≡ record w { words = acted w.layout w.words a }
beside_world w i p a there none =
    let history : w.history ++ written p.caller p.index (counted p.stage) ≡ w.history =
    ap (λ (change : _). w.history ++ written p.caller p.index change) none ∙ append-nil w.history in
    λ k. record { layout = w.layout; generation = w.generation; words = acted w.layout w.words a; parties = set_own w.parties i p there k; base = w.base; history = history k }

pub beside_keeps : BesideKeeps
beside_keeps w i p a lawful there none is =
    let world = beside_world w i p a there none in
    record {
      world = world;
      facts = ap facts world ∙ beside_facts w lawful a is;
      kept = subst Lawful (sym world) (beside_lawful w lawful a is);
    }

pub any_allowed : AnyIsAllowed
any_allowed l g s a x t r within (on_nodes k) = inl (allow_law l g s a x t r within k)
any_allowed l g s a x t r within (beside none is) = inr is

abbrev loaded_from : Action → ℕ
loaded_from (Load address) = address
loaded_from _ = 0

-- no word beside nodes is a word of a node
beside_loads : (l : Layout) (n offset : ℕ) (a : Action) → HasWordAt l n offset → IsBeside l a → a ≡ Load (word_address l n offset) → ⊥
beside_loads l n offset a here (loads_line {c = c} {j = j} {offset = o} has) is =
    let same : Cached (Line c j o) ≡ Cached (Node n offset) = addresses_apart l (Cached (Line c j o)) (Cached (Node n offset)) has here (ap loaded_from is) in
    subst IsAside (ap line_of same) tt
beside_loads l n offset a here (stores_line has fits) is = cc
beside_loads l n offset a here (drains_line has fits) is = cc
beside_loads l n offset a here (stores_prev low fits) is = cc
beside_loads l n offset a here (loads_layer {w = v} place) is =
    let same : Cached v ≡ Cached (Node n offset) = addresses_apart l (Cached v) (Cached (Node n offset)) place.there here (ap loaded_from is) in
    let no : true ≡ false = sym place.of_layer ∙ ap is_of_layer same in
    absurd (cc)
beside_loads l n offset a here (on_permutation (loads {n = m} {offset = o} low of)) is =
    let same : Volatile m o ≡ Cached (Node n offset) = addresses_apart l (Volatile m o) (Cached (Node n offset)) (low, (above o of).1) here (ap loaded_from is) in
    absurd (cc)
beside_loads l n offset a here (on_permutation (stores low of fits)) is = cc

beside_status : (l : Layout) (n : ℕ) (a : Action) → HasLocation l (Volatile n status_offset) → IsBeside l a → a ≡ Load (status_address l n) → ⊥
beside_status l n a here (loads_line {c = c} {j = j} {offset = o} has) is =
    let same : Cached (Line c j o) ≡ Volatile n status_offset = addresses_apart l (Cached (Line c j o)) (Volatile n status_offset) has here (ap loaded_from is) in
    absurd (cc)
beside_status l n a here (stores_line has fits) is = cc
beside_status l n a here (drains_line has fits) is = cc
beside_status l n a here (stores_prev low fits) is = cc
beside_status l n a here (loads_layer {w = v} place) is =
    let same : Cached v ≡ Volatile n status_offset = addresses_apart l (Cached v) (Volatile n status_offset) place.there here (ap loaded_from is) in
    absurd (cc)
beside_status l n a here (on_permutation (loads {n = m} {offset = o} low of)) is =
    let both = above o of in
    let same : Volatile m o ≡ Volatile n status_offset = addresses_apart l (Volatile m o) (Volatile n status_offset) (low, both.1) here (ap loaded_from is) in
    let no : o ≡ status_offset = ap offset_in same in
    let least = both.0 in
    absurd (omega arith)
beside_status l n a here (on_permutation (stores low of fits)) is = cc

-- what it gives is a word
beside_fits : (w : World) → Lawful w → (a : Action) → IsBeside w.layout a → got w.layout w.words a < 2 ^ 64
beside_fits w lawful a (loads_line {c = c} {j = j} {offset = offset} has) = lawful.row.fits (line_address w.layout c j offset)
beside_fits w lawful a (stores_line has fits) = omega arith
beside_fits w lawful a (drains_line has fits) = omega arith
beside_fits w lawful a (stores_prev here fits) = omega arith
beside_fits w lawful a (loads_layer {w = v} place) = lawful.row.fits (address_of w.layout (Cached v))
beside_fits w lawful a (on_permutation (loads {n = n} {offset = offset} here of)) = lawful.row.fits (volatile_address w.layout n offset)
beside_fits w lawful a (on_permutation (stores here of fits)) = omega arith

pub any_can : AnyCanAct
any_can w i p a lawful there (inl allowed) room = action_law w i p a lawful there allowed room
any_can w i p a lawful there (inr is) room =
    let l = w.layout in
    let known = lawful.sure i p there in
    let nodes : 0 < l.nodes = lawful.row.layout.nodes.0 in
    record {
      can = beside_can w lawful a is;
      told = record {
        fits = beside_fits w lawful a is;
        known = λ n here load. absurd (beside_loads l n version_offset a (here, omega arith) is load);
        first_live = λ load. absurd (beside_status l 0 a (nodes, omega arith) is load);
        first_anchor = λ offset least most load. absurd (beside_loads l 0 offset a (nodes, omega arith) is load);
        first_next = λ load some. absurd (beside_loads l 0 next_offset a (nodes, omega arith) is load);
      };
      leads = record {
        live = told_leads l w.generation w.words w.base w.history p.caller p.index p.since p.stage a known;
        held = told_held l w.generation w.words w.base w.history p.caller p.index p.since p.stage a lawful.list known;
        met = told_met l w.generation w.words w.base w.history p.caller p.index p.since p.stage a lawful.list known;
      };
    }

-- it adds nothing to the clock
beside_counts : (l : Layout) (a : Action) (x count : ℕ) (change : Option Change) → IsBeside l a → change ≡ None → Counts l count a x change
beside_counts l a x count change is none = subst (Counts l count a x) (sym none) (never is)
  where
    never : {b : Action} → IsBeside l b → b ≡ Add (clock_address l) → ⊥
    never (loads_line has) e = cc
    never (stores_line has fits) e = cc
    never (drains_line has fits) e = cc
    never (stores_prev here fits) e = cc
    never (loads_layer place) e = cc
    never (on_permutation (loads here of)) e = cc
    never (on_permutation (stores here of fits)) e = cc

pub any_keeps : AnyStepKeeps
any_keeps w i p a x t r lawful there (on_nodes k) told room = step_law w i p a x t r lawful there k told room
any_keeps w i p a x t r lawful there (beside none is) told room = record {
  can = beside_can w lawful a is;
  kept = (beside_keeps w i p a lawful there none is).kept;
  counts = beside_counts w.layout a x (length w.history) (counted p.stage) is none;
  legal = tt;
}

pub any_weighs : AnyStepWeighs
any_weighs w i p a x t r lawful there (on_nodes k) told = step_weighs w i p a x t r lawful there k told
any_weighs w i p a x t r lawful there (beside none is) told =
    let law = beside_keeps w i p a lawful there none is in
    let parties : (stepped w i p a p.stage).parties ≡ w.parties = ap (λ (v : World). v.parties) law.world in
    let same : weight_sum (stepped w i p a p.stage) ≡ weight_sum w =
    λ k. index_weight w.layout (law.facts k) + lowered_sum w.layout (law.facts k) (parties k) in
    inl (omega (arith, same))

pub held_ranges_stay : HeldRangesStay
held_ranges_stay w i j p q n lock h a x t r lawful ne there other holds (on_nodes k) told =
    let l = w.layout in
    let known = lawful.sure i p there in
    let given = gives w.words w.base w.history p.caller p.index p.since k lawful.clock told known in
    let same = facts_step w.words w.base w.history p.caller p.index p.since k lawful.row lawful.list told known in
    let held : HoldsNode q.stage n = subst (λ (s : Stage). HoldsNode s n) (sym holds) refl in
    ap (λ (f : Facts). range_of l f n) same
    ∙ (steadies (facts w) p.caller p.index p.since k given lawful.list known q.caller q.index q.since q.stage
    (λ m mine theirs. ne (lawful.alone i j m p q there other mine theirs)) (lawful.sure j q other) n held).range
held_ranges_stay w i j p q n lock h a x t r lawful ne there other holds (beside none is) told =
    ap (λ (f : Facts). range_of w.layout f n) (beside_keeps w i p a lawful there none is).facts
