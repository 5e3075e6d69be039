-- What the parties hold beside a step of a call on nodes, and what is known as it is made.
use Rattle.std.proofs.Common.{◌≡◌, ◌≢◌, ℕ, ◌<◌, ◌≤◌, inl, inr, ⊎_elim, not, true, false, Option, refl, sym, ap, ◌∙◌, subst, arith}
use Rattle.std.proofs.lemmas.Bool.{cases_eq, le-ltb, cases_lt}
use mathlib.Core.Option.{some, some-injective}
use lib.ListN.{get_elem?}
use Rattle.pm_words.specs.declared.layout.Layout.{Layout}
use Rattle.pm_words.specs.declared.action.Action.{Action}
use Rattle.pm_words.specs.Locations.{Cached}
use Rattle.pm_words.specs.Codes.{gone_status, merge_kind, ready_state}
use Rattle.version_lock.specs.Versions.{is_free_word, IsFree}
use Rattle.version_lock.proofs.WordTests.{free_is}
use Rattle.call_stages.specs.declared.once.Once.{Once}
use Rattle.call_stages.specs.declared.once.Placed.{Placed}
use Rattle.call_stages.specs.Stages.{Stage, Held, Grip, Gone, Joined, Gathered, Joins, HoldsNode}
use Rattle.call_stages.specs.Kinds.{Look, turns_back, wears, roams, roams_status, is_worn, sees, finds_live, watches, watches_next, turns_away, steps_back, wanders, peeks, peeks_status, eyes, eyes_free, passes, loses, misses, misses_read, times, learns, decides, glances, Step, looks, locks, locks_read, stores, commits, drains, counts, unlocks, splits, merges, claims, publishes, leaves, meets, knows_own, knows_right, copies, takes_up, puts_down, parts, gathers, joins, glances_joined, drains_joined, retires, yields, Merge, Split, fills, lights, switches, glances_left, glances_fresh, drains_left, drains_fresh, trims}
use Rattle.call_stages.specs.Lines.{HeldLine}
use Rattle.call_stages.specs.Footings.{Minds, HasLine}
use Rattle.index_law.specs.Facts.{Facts, version_in}
use Rattle.index_law.specs.Worlds.{Party, World, facts}
use Rattle.index_law.specs.Lawful.{Sure, Lawful}
use Rattle.index_law.proofs.Locks.{look_holds}
use Rattle.index_law.proofs.Moves.{MergeGave, Gives}
use Rattle.updater_law.specs.Covers.{set_at}
use Rattle.updater_law.specs.Facts.{TurnFacts}
use Rattle.updater_law.specs.OtherSteps.{OtherStep}
use Rattle.updater_law.proofs.Columns.{here, other}
use Rattle.updater_row_law.specs.Columns.{lines_in}
use Rattle.index_layer_law.specs.Layers.{Layered, IsLayered}
use Rattle.index_layer_law.proofs.FactTies.{facts_tie}
use Rattle.index_layer_law.proofs.CallMoves.{Moved}
use Rattle.index_layer_law.proofs.CallSteps.{holder_after, Context}
use Rattle.call_stages.specs.Kinds.{reads_on}
use Rattle.call_stages.specs.Stages.{IsLoose}
use Rattle.index_law.proofs.Moves.{read_after}

-- whom a step makes the holder of which node
module _ (l : Layout) (g : ℕ) (f : Facts) (holder : ℕ → ℕ) (i caller index since : ℕ) where
  set_mine : (n m : ℕ) → (m ≢ n → holder m ≡ i) → set_at holder n i m ≡ i
  set_mine n m was = ⊎_elim (λ (e : m ≡ n). here holder n m i e) (λ (apart : m ≢ n). other holder n m i apart ∙ was apart) (cases_eq m n)

  split_mine : {s : Stage} {a : Action} {x : ℕ} {t : Stage} → Split l g s a x t → ((m : ℕ) → HoldsNode s m → holder m ≡ i) → (m : ℕ) → HoldsNode t m → holder m ≡ i
  split_mine (fills has positive small within soils told) own m held = own m held
  split_mine (lights within leads) own m held = own m held
  split_mine (switches within small durable soiled cut told means) own m held = own m held
  split_mine (glances_left has learnt) own m held = own m held
  split_mine (glances_fresh has) own m held = own m held
  split_mine (drains_left has small hand cleans) own m held = own m held
  split_mine (drains_fresh has small hand cleans) own m held = own m held
  split_mine (trims within small durable soiled anchor told means) own m held = own m held

  merge_mine : {s : Stage} {a : Action} {x : ℕ} {t : Stage} → (k : Merge l g s a x t) → ((m : ℕ) → HoldsNode s m → holder m ≡ i) → (m : ℕ) → HoldsNode t m → holder_after (merges k) holder i m ≡ i
  merge_mine (meets {n = n} {m = u} within same untimed leads) own m (inl e) = set_mine u m (λ apart. own m e)
  merge_mine (meets {n = n} {m = u} within same untimed leads) own m (inr e) = here holder u m i (sym e)
  merge_mine (knows_own has positive learnt) own m held = own m held
  merge_mine (knows_right has positive told) own m held = own m held
  merge_mine (copies has content small soils learnt means) own m held = own m held
  merge_mine (takes_up has) own m held = own m held
  merge_mine (puts_down has small hand cleans) own m held = own m held
  merge_mine (parts next) own m held = own m (inl held)
  merge_mine (gathers small durable soiled told gathered) own m held = own m held
  merge_mine (joins small durable soiled next told) own m held = own m held
  merge_mine (glances_joined has learnt) own m held = own m held
  merge_mine (drains_joined has small hand cleans) own m held = own m held
  merge_mine (retires durable) own m held = own m held
  merge_mine (yields next durable) own m held = own m (inl held)

  -- the party holds its nodes afterwards
  pub mine_after : {s : Stage} {a : Action} {x : ℕ} {t : Stage} {r : Option (Once Placed)} (k : Step l g s a x t r) → ((m : ℕ) → HoldsNode s m → holder m ≡ i) → (m : ℕ) → HoldsNode t m → holder_after k holder i m ≡ i
  mine_after {s = s} {a = a} {x = x} {t = t} {r = r} (looks look) own m held = own m ((look_holds f caller index since look m).1 held)
  mine_after (locks {n = n} same named live between) own m held = here holder n m i (sym held)
  mine_after (locks_read {n = n} same named live between unworn taken small) own m held = here holder n m i (sym held)
  mine_after (stores has content small clean soils learnt means) own m held = own m held
  mine_after (commits has content small clean durable soiled old about learnt means) own m held = own m held
  mine_after (drains has small unready hand cleans) own m held = own m held
  mine_after (counts durable ready pending unplaced) own m held = own m held
  mine_after (unlocks next pending durable unready answers) own m held = absurd held
  mine_after (claims {m = u} unplaced within same) own m (inl e) = set_mine u m (λ apart. own m e)
  mine_after (claims {m = u} unplaced within same) own m (inr e) = here holder u m i (sym e)
  mine_after (publishes next left fresh) own m held = own m (inl held)
  mine_after (leaves next) own m held = absurd held
  mine_after (splits k) own m held = split_mine k own m held
  mine_after (merges k) own m held = merge_mine k own m held

  -- and a node that wasn't free has the holder that it had
  apart_lock : (n m v x : ℕ) → x ≡ f.version n → x ≡ v → IsFree v g → (IsFree (f.version m) g → ⊥) → set_at holder n i m ≡ holder m
  apart_lock n m v x told same free held = other holder n m i (λ e. held (subst (λ (w : ℕ). IsFree w g) (sym same ∙ told ∙ ap f.version (sym e)) free))

  merge_others : {s : Stage} {a : Action} {x : ℕ} {t : Stage} → (k : Merge l g s a x t) → MergeGave k f → Sure l g f caller index since s → (m : ℕ) → (IsFree (f.version m) g → ⊥) → holder_after (merges k) holder i m ≡ holder m
  merge_others (meets {x = x} {m = n} {v = v} within same untimed leads) given sure m held = apart_lock n m v x given same sure.1.word.free held
  merge_others (knows_own has positive learnt) given sure m held = refl
  merge_others (knows_right has positive told) given sure m held = refl
  merge_others (copies has content small soils learnt means) given sure m held = refl
  merge_others (takes_up has) given sure m held = refl
  merge_others (puts_down has small hand cleans) given sure m held = refl
  merge_others (parts next) given sure m held = refl
  merge_others (gathers small durable soiled told gathered) given sure m held = refl
  merge_others (joins small durable soiled next told) given sure m held = refl
  merge_others (glances_joined has learnt) given sure m held = refl
  merge_others (drains_joined has small hand cleans) given sure m held = refl
  merge_others (retires durable) given sure m held = refl
  merge_others (yields next durable) given sure m held = refl

  pub others_after : {s : Stage} {a : Action} {x : ℕ} {t : Stage} {r : Option (Once Placed)} (k : Step l g s a x t r) → Gives k f → Sure l g f caller index since s → (m : ℕ) → (IsFree (f.version m) g → ⊥) → holder_after k holder i m ≡ holder m
  others_after (looks look) given sure m held = refl
  others_after (locks {n = n} {v = v} {x = x} same named live between) given sure m held = apart_lock n m v x given same sure.word.free held
  others_after (locks_read {n = n} {v = v} {x = x} same named live between unworn taken small) given sure m held = apart_lock n m v x given same sure.free held
  others_after (stores has content small clean soils learnt means) given sure m held = refl
  others_after (commits has content small clean durable soiled old about learnt means) given sure m held = refl
  others_after (drains has small unready hand cleans) given sure m held = refl
  others_after (counts durable ready pending unplaced) given sure m held = refl
  others_after (unlocks next pending durable unready answers) given sure m held = refl
  others_after (claims {x = x} {m = n} {v = v} unplaced within same) given sure m held = apart_lock n m v x given same sure.1.word.free held
  others_after (publishes next left fresh) given sure m held = refl
  others_after (leaves next) given sure m held = refl
  others_after (splits k) given sure m held = refl
  others_after (merges k) given sure m held = merge_others k given sure m held

-- The right node of a merge stays the one that it is, or becomes GONE with this step.
pub data Comes (s : Stage) (line : Option HeldLine) (right : Grip) : Type 0 where
  was_gone : (h : Held) (left other : Grip) → s ≡ Joins h left other Gone → other.node ≡ right.node → Comes s line right
  retired : (h : Held) (left other : Grip) → s ≡ Joins h left other Joined → other.node ≡ right.node → HasLine line (λ e. e.ready ≡ false) → Comes s line right

-- no look leads to a merge whose right node is GONE
no_look : {l : Layout} {g : ℕ} {s : Stage} {a : Action} {x : ℕ} {t : Stage} {r : Option (Once Placed)} {h : Held} {left right : Grip} → Look l g s a x t r → t ≡ Joins h left right Gone → ⊥
no_look (turns_back loose within busy) is = cc
no_look (wears loose within free worn) is = cc
no_look (roams has) is = cc
no_look (roams_status within) is = cc
no_look (is_worn has) is = cc
no_look (sees loose within free unworn lock) is = cc
no_look (finds_live within live) is = cc
no_look (watches has positive live next learnt) is = cc
no_look (watches_next has low high ne live live' next leads learnt) is = cc
no_look (turns_away loose within up) is = cc
no_look (steps_back loose within up) is = cc
no_look (wanders loose has up) is = cc
no_look (peeks within unready) is = cc
no_look (peeks_status within unready) is = cc
no_look (eyes clean durable within nonzero free unworn lock) is = cc
no_look (eyes_free within free) is = cc
no_look (passes within) is = cc
no_look (loses within other) is = cc
no_look (misses other) is = cc
no_look (misses_read other small) is = cc
no_look (times clean below) is = cc
no_look (learns has positive unready knows) is = cc
no_look (decides has positive clean durable about knows decided) is = cc
no_look (reads_on k) is = subst IsLoose is (read_after k)
no_look (glances has unready) is = cc

-- the right node of a stage that merges
right_of : Stage → Grip → Grip
right_of (Joins h left right pace) none = right
right_of _ none = none

pub comes : {l : Layout} {g : ℕ} {s : Stage} {a : Action} {x : ℕ} {t : Stage} {r : Option (Once Placed)} → Step l g s a x t r → (line : Option HeldLine) → Minds s t line → (h : Held) (left right : Grip) → t ≡ Joins h left right Gone
    → Comes s line right
unfolding right_of
comes step line minds h left right is = of step minds is
  where
    merging : {l : Layout} {g : ℕ} {s : Stage} {a : Action} {x : ℕ} {t : Stage} → Merge l g s a x t → Minds s t line → t ≡ Joins h left right Gone → Comes s line right
    merging (glances_joined {h = h'} {left = left'} {right = right'} {pace = Gone} has learnt) minds is = was_gone h' left' right' refl (ap (λ u. (right_of u right).node) is)
    merging (glances_joined {pace = Gathered} has learnt) minds is = absurd (cc)
    merging (glances_joined {pace = Joined} has learnt) minds is = absurd (cc)
    merging (drains_joined {h = h'} {left = left'} {right = right'} {pace = Gone} has small hand cleans) minds is = was_gone h' left' right' refl (ap (λ u. (right_of u right).node) is)
    merging (drains_joined {pace = Gathered} has small hand cleans) minds is = absurd (cc)
    merging (drains_joined {pace = Joined} has small hand cleans) minds is = absurd (cc)
    merging (retires {h = h'} {left = left'} {right = right'} durable) minds is = retired h' left' right' refl (ap (λ u. (right_of u right).node) is) minds
    merging (meets within same untimed leads) minds is = absurd (cc)
    merging (knows_own has positive learnt) minds is = absurd (cc)
    merging (knows_right has positive told) minds is = absurd (cc)
    merging (copies has content small soils learnt means) minds is = absurd (cc)
    merging (takes_up has) minds is = absurd (cc)
    merging (puts_down has small hand cleans) minds is = absurd (cc)
    merging (parts next) minds is = absurd (cc)
    merging (gathers small durable soiled told gathered) minds is = absurd (cc)
    merging (joins small durable soiled next told) minds is = absurd (cc)
    merging (yields next durable) minds is = absurd (cc)

    splitting : {l : Layout} {g : ℕ} {s : Stage} {a : Action} {x : ℕ} {t : Stage} → Split l g s a x t → t ≡ Joins h left right Gone → ⊥
    splitting (fills has positive small within soils told) is = cc
    splitting (lights within leads) is = cc
    splitting (switches within small durable soiled cut told means) is = cc
    splitting (glances_left has learnt) is = cc
    splitting (glances_fresh has) is = cc
    splitting (drains_left has small hand cleans) is = cc
    splitting (drains_fresh has small hand cleans) is = cc
    splitting (trims within small durable soiled anchor told means) is = cc

    -- no look leads there
    of : {l : Layout} {g : ℕ} {s : Stage} {a : Action} {x : ℕ} {t : Stage} {r : Option (Once Placed)} → Step l g s a x t r → Minds s t line → t ≡ Joins h left right Gone → Comes s line right
    of (looks look) minds is = absurd (no_look look is)
    of (locks same named live between) minds is = absurd (cc)
    of (locks_read same named live between unworn taken small) minds is = absurd (cc)
    of (stores has content small clean soils learnt means) minds is = absurd (cc)
    of (commits has content small clean durable soiled old about learnt means) minds is = absurd (cc)
    of (drains has small unready hand cleans) minds is = absurd (cc)
    of (counts durable ready pending unplaced) minds is = absurd (cc)
    of (unlocks next pending durable unready answers) minds is = absurd (cc)
    of (claims unplaced within same) minds is = absurd (cc)
    of (publishes next left' fresh) minds is = absurd (cc)
    of (leaves next) minds is = absurd (cc)
    of (splits k) minds is = absurd (splitting k is)
    of (merges k) minds is = merging k minds is

pub moved_along : (a b a' b' : TurnFacts) → a' ≡ a → b' ≡ b → Moved a b → Moved a' b'
moved_along a b a' b' from to (inl same) = inl (to ∙ same ∙ sym from)
moved_along a b a' b' from to (inr step) = inr (subst (OtherStep a') (sym to) (subst (λ x. OtherStep x b) (sym from) step))

module _ (z : Layered) (i : ℕ) (p : Party) (is : IsLayered z) (there : get_elem? z.whole.world.parties i ≡ some p) where
  abbrev w : World
  w = z.whole.world

  abbrev lawful : Lawful z.whole.world
  lawful = is.whole.joint.lawful

  -- a node of the turn's facts that is held is one of the layout's
  held_within : (n : ℕ) → not (is_free_word ((facts w).version n) w.generation) ≡ true → n < w.layout.nodes
  unfolding version_in
  held_within n held = ⊎_elim
      (λ (small : n < w.layout.nodes). small)
      (λ (past : w.layout.nodes ≤ n). absurd (
      let none : version_in w.layout w.words n ≡ 0 = rw (le-ltb n w.layout.nodes past) refl in
      let run : 1 ≤ w.generation = lawful.run.least in
      let free : is_free_word 0 w.generation ≡ true = free_is 0 w.generation (inl (omega arith)) in
      let no : true ≡ false = sym held ∙ ap (λ v. not (is_free_word v w.generation)) none ∙ ap not free in cc))
      (cases_lt n w.layout.nodes)

  -- READY lines of merges are of GONE nodes
  pub merged : (j : ℕ) → (lines_in w.layout w.words Cached).state j ≡ ready_state → (lines_in w.layout w.words Cached).kind j ≡ merge_kind → (facts w).status ((lines_in w.layout w.words Cached).node j) ≡ gone_status
  merged j ready kind =
      let active = is.active in
      let law = (is.rows active.0 active.1 active.2 active.3).law in
      ap (λ (F : TurnFacts). F.status ((lines_in w.layout w.words Cached).node j)) (sym (facts_tie w is.holder active.1)) ∙ (law.merges j ready kind).gone

  pub context : Context w.layout w.generation w.words w.base w.history lawful.row p.caller p.index p.since i is.holder p.stage
  context = record {
    sure = lawful.sure i p there;
    list = lawful.list;
    live = lawful.live;
    holders = λ n held. is.holders i p n there held;
    own = λ n held mine. ⊎_elim
        (λ free. absurd (let no : true ≡ false = sym held ∙ ap not (free_is ((facts w).version n) w.generation free) in cc))
        (λ by.
        let number : by.number ≡ i = sym (is.holders by.number by.party n by.there by.holds) ∙ mine in
        let same : by.party ≡ p = some-injective _ _ (sym by.there ∙ ap (get_elem? w.parties) number ∙ there) in
        subst (λ (q : Party). HoldsNode q.stage n) same by.holds)
        (lawful.held n (held_within n held));
    merged = merged;
  }
