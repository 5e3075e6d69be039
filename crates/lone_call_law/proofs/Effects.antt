-- What a step does to the place that its call has, and to the list.
use Rattle.std.proofs.Common.{◌≡◌, ◌≢◌, ◌==◌, ℕ, ◌<◌, ◌⊎◌, inl, inr, cond, List, true, false, refl, sym, ap, ◌∙◌, subst, arith}
use Rattle.std.proofs.lemmas.Bool.{eq-eqb, ne_eqb}
use Rattle.std.specs.Prelude.{Option, Some, None, IfSome}
use Rattle.pm_words.specs.Codes.{gone_status}
use Rattle.pm_words.specs.declared.layout.Layout.{Layout}
use Rattle.pm_words.specs.declared.action.Action.{Action}
use Rattle.cat_history.specs.declared.op.Change.{Change}
use Rattle.call_stages.specs.declared.once.Once.{Once}
use Rattle.call_stages.specs.declared.once.Once.TheVariants as once
use Rattle.call_stages.specs.declared.once.Placed.{Placed}
use Rattle.call_stages.specs.Stages.{Held, Grip, Stage, Idle, Saw, Wears, Holds, Splits, Filling, Linked, Parted, Phase, IsLoose, counted, placed_in}
use Rattle.call_stages.specs.Prevs.{IsJoin, IsRetire}
use Rattle.call_stages.specs.Kinds.{below_key, from_key, Look, turns_back, is_worn, wears, roams, roams_status, sees, misses, misses_read, times, learns, decides, glances, finds_live, watches, watches_next, turns_away, steps_back, wanders, fills, lights, switches, glances_left, glances_fresh, drains_left, drains_fresh, trims, splits, meets, knows_own, knows_right, copies, takes_up, puts_down, parts, gathers, joins, glances_joined, drains_joined, retires, yields, merges, peeks, peeks_status, eyes, eyes_free, passes, loses, claims, publishes, leaves, Step, looks, locks, locks_read, stores, commits, drains, counts, unlocks, GivesUp, Answers, writes, reads, is_spent, has_no_room, refuses}
use Rattle.data_node.specs.Lists.{ListNode, target_from, key_of, without_member}
use Rattle.cat_history.specs.Maps.{at}
use Rattle.index_law.specs.Facts.{Facts, map_now, range_of}
use Rattle.index_law.specs.Lawful.{Sure, IsList}
use Rattle.index_law.proofs.Switch.{range_left, range_fresh}
use Rattle.index_law.specs.Shapes.{IsHalved}
use Rattle.index_law.proofs.Locks.{cut_now}
use Rattle.index_law.proofs.Moves.{fact_after}
use Rattle.index_law.proofs.Shapes.{switch_halves}
use Rattle.index_law.proofs.Loose.{loose_counted, loose_unplaced}
use Rattle.index_law.specs.LoneShapes.{has_merged, IsOut}
use Rattle.lone_call_law.proofs.Cuts.{loose_uncut}
use Rattle.lone_call_law.specs.Tries.{is_cut, has_retired}
use Rattle.call_stages.specs.Kinds.{Read, views, views_live, views_word, views_next, dates, notes, finds, confirms, wavers, reads_on}
use Rattle.call_stages.specs.Stages.{Reads}

-- an answer that isn't Done
abbrev pub IsDone : Once Placed → Type 0
IsDone (once.Done placed) = Unit {0}
IsDone _ = ⊥

-- A member is cut, by a split that is about a name of its range.
pub record Cuts (l : Layout) (f : Facts) (list : List ListNode) (s : Stage) : Type 0 where
  pub halved : IsHalved l f list
  pub left : Grip
  pub fresh : Grip
  pub is : s ≡ Splits left fresh (Filling true)
  pub inside : range_of l f halved.node left.name ≡ true
  pub had : IfSome left.old (λ old. at (map_now f) left.name ≡ old)
  pub lower : (λ (other : List ℕ). target_from 0 list (key_of other) == halved.node) ≡ below_key (range_of l f halved.node) (key_of halved.anchor)
  pub upper : (λ (other : List ℕ). target_from 0 list (key_of other) == halved.fresh) ≡ from_key (range_of l f halved.node) (key_of halved.anchor)

-- The step leaves whether the call has merged, and how far, or leads to a stage without a node of a call.
abbrev pub Keeps : Stage → Stage → Type 0
Keeps s t = IsOut t ⊎ ((has_merged t ≡ has_merged s) × (has_retired t ≡ has_retired s))

-- One more node is GONE.
pub record Buries (nodes : ℕ) (f f' : Facts) : Type 0 where
  pub node : ℕ
  pub within : node < nodes
  pub others : (k : ℕ) → k ≢ node → f'.status k ≡ f.status k
  pub is : f'.status node ≡ gone_status
  pub wasnt : f.status node ≢ gone_status

-- What a step does, beside what it does to its node: f are the facts before it, and f' those after it.
pub data Effect (l : Layout) (f f' : Facts) (s : Stage) (x : ℕ) (t : Stage) : Option (Once Placed) → Type 0 where
  stays : counted s ≡ None → placed_in t ≡ placed_in s → is_cut t ≡ is_cut s → Keeps s t → f'.list ≡ f.list → Effect l f f' s x t None
  adds : {c : Change} → counted s ≡ Some c → placed_in s ≡ None → placed_in t ≡ Some x → is_cut s ≡ false → is_cut t ≡ false → Keeps s t → f'.list ≡ f.list → Effect l f f' s x t None
  cuts : counted s ≡ None → placed_in s ≡ None → placed_in t ≡ None → is_cut s ≡ false → is_cut t ≡ true → Keeps s t → Cuts l f f'.list s → Effect l f f' s x t None
  drops : (join : IsJoin s t) → f'.list ≡ without_member join.right.node f.list → Effect l f f' s x t None
  buries : IsRetire s t → f'.list ≡ f.list → Buries l.nodes f f' → Effect l f f' s x t None
  ends : {r : Once Placed} → counted s ≡ None → (IsDone r → ⊥) → placed_in s ≡ None → f'.list ≡ f.list → Effect l f f' s x t (Some r)
  is_done : {r : Once Placed} → counted s ≡ None → IsDone r → f'.list ≡ f.list → Effect l f f' s x t (Some r)

-- a call that has no node goes on to a stage without a node
from_loose : (l : Layout) (f : Facts) (s t : Stage) (x : ℕ) → IsLoose s → placed_in t ≡ None → is_cut t ≡ false → IsOut t → Effect l f f s x t None
from_loose l f s t x loose placed cut out = stays (loose_counted s loose) (placed ∙ sym (loose_unplaced s loose)) (cut ∙ sym (loose_uncut s loose)) (inl out) refl

gives_up : (l : Layout) (f : Facts) (s : Stage) (x : ℕ) (r : Option (Once Placed)) → IsLoose s → GivesUp r → Effect l f f s x Idle r
gives_up l f s x None loose up = from_loose l f s Idle x loose refl refl tt
gives_up l f s x (Some (once.Again why)) loose up = ends (loose_counted s loose) (λ no. no) (loose_unplaced s loose) refl
gives_up l f s x (Some (once.Done placed)) loose up = absurd up
gives_up l f s x (Some (once.Spent clock)) loose up = absurd up
gives_up l f s x (Some (once.Worn n word)) loose up = absurd up

-- it isn't ready to count
unready : (n w : ℕ) (h : Held) → h.ready ≡ false → counted (Holds n w h) ≡ None
unready n w h is = subst (λ b. elim b [ true ↦ h.pending | false ↦ None ] ≡ None) (sym is) refl

-- other words in its grips leave it as far as it is
same_phase : (left left' fresh fresh' : Grip) (phase : Phase) → is_cut (Splits left' fresh' phase) ≡ is_cut (Splits left fresh phase)
same_phase left left' fresh fresh' (Filling lit) = refl
same_phase left left' fresh fresh' Linked = refl
same_phase left left' fresh fresh' Parted = refl

answer_does : (l : Layout) (f f' : Facts) (n w x : ℕ) (h : Held) (r : Once Placed) → f'.list ≡ f.list → counted (Holds n w h) ≡ None → Answers l h r → Effect l f f' (Holds n w h) x Idle (Some r)
answer_does l f f' n w x h r same none (writes placed old) = is_done none tt same
answer_does l f f' n w x h r same none (reads unplaced time old) = is_done none tt same
answer_does l f f' n w x h r same none (is_spent unplaced time) = ends none (λ no. no) unplaced same
answer_does l f f' n w x h r same none (has_no_room unplaced time old full) = ends none (λ no. no) unplaced same
answer_does l f f' n w x h r same none (refuses unplaced is) = ends none (λ no. no) unplaced same

module _ {l : Layout} {g : ℕ} (f : Facts) where
  read_does : {s : Stage} {a : Action} {x : ℕ} {t : Stage} {r : Option (Once Placed)} → Read l g s a x t r → Effect l f f s x t r
  read_does (views {s = s} {n = n} {x = x} loose here free) = from_loose l f s (Reads n x _ None) x loose refl refl tt
  read_does (views_live here is) = stays refl refl refl (inl tt) refl
  read_does (views_word has positive live next learnt) = stays refl refl refl (inl tt) refl
  read_does (views_next has low high ne live live' next leads learnt) = stays refl refl refl (inl tt) refl
  read_does (dates named live between kept) = stays refl refl refl (inl tt) refl
  read_does (notes has positive learnt) = stays refl refl refl (inl tt) refl
  read_does (finds has positive learnt decided) = stays refl refl refl (inl tt) refl
  read_does (confirms here same unplaced unlimited time old) = is_done refl tt refl
  read_does (wavers here other) = ends refl (λ no. no) refl refl

module _ {l : Layout} {g : ℕ} (f : Facts) (list : IsList l f) (caller index since : ℕ) where
  look_does : {s : Stage} {a : Action} {x : ℕ} {t : Stage} {r : Option (Once Placed)} → Look l g s a x t r → Sure l g f caller index since s → Effect l f f s x t r
  look_does (turns_back {s = s} {n = n} {x = x} loose here busy) knows = ends (loose_counted s loose) (λ no. no) (loose_unplaced s loose) refl
  look_does (wears {s = s} {n = n} {x = x} loose here free worn) knows = from_loose l f s (Wears n x) x loose refl refl tt
  look_does (roams has) knows = stays refl refl refl (inl tt) refl
  look_does (roams_status here) knows = stays refl refl refl (inl tt) refl
  look_does (is_worn has) knows = ends refl (λ no. no) refl refl
  look_does (sees {s = s} {n = n} {x = x} {w = w} loose here free unworn lock) knows = from_loose l f s (Saw n x w _) x loose refl refl tt
  look_does (finds_live here is) knows = stays refl refl refl (inl tt) refl
  look_does (watches has positive live next learnt) knows = stays refl refl refl (inl tt) refl
  look_does (watches_next has low high ne live live' next leads learnt) knows = stays refl refl refl (inl tt) refl
  look_does (turns_away {s = s} {x = x} {r = r} loose here up) knows = gives_up l f s x r loose up
  look_does (steps_back {s = s} {x = x} {r = r} loose here up) knows = gives_up l f s x r loose up
  look_does (wanders {s = s} {x = x} {r = r} loose here up) knows = gives_up l f s x r loose up
  look_does (peeks {n = n} {w = w} {h = h} here is) knows = stays (unready n w h is) refl refl (inr (refl, refl)) refl
  look_does (peeks_status {n = n} {w = w} {h = h} here is) knows = stays (unready n w h is) refl refl (inr (refl, refl)) refl
  look_does (eyes {n = n} {w = w} {h = h} clean durable here nonzero free unworn lock) knows = stays (unready n w h clean.ready) refl refl (inr (refl, refl)) refl
  look_does (eyes_free here is) knows = stays refl refl refl (inr (refl, refl)) refl
  look_does (passes {n = n} {w = w} {h = h} here) knows = stays refl refl refl (inr (refl, refl)) refl
  look_does (loses here other) knows = stays refl refl refl (inr (refl, refl)) refl
  look_does (misses other) knows = ends refl (λ no. no) refl refl
  look_does (misses_read other small) knows = ends refl (λ no. no) refl refl
  look_does (times {n = n} {w = w} {h = h} clean below) knows = stays (unready n w h clean.ready) refl refl (inr (refl, refl)) refl
  look_does (learns {n = n} {w = w} {h = h} has positive is learnt) knows = stays (unready n w h is) refl refl (inr (refl, refl)) refl
  look_does (decides {n = n} {w = w} {h = h} has positive clean durable about learnt decided) knows = stays (unready n w h clean.ready) refl refl (inr (refl, refl)) refl
  look_does (reads_on k) knows = read_does f k
  look_does (glances {n = n} {w = w} {h = h} has is) knows = stays (unready n w h is) refl refl (inr (refl, refl)) refl

  pub step_does : {s : Stage} {a : Action} {x : ℕ} {t : Stage} {r : Option (Once Placed)} → (k : Step l g s a x t r) → Sure l g f caller index since s → Effect l f (fact_after k f caller index) s x t r
  step_does (looks look) knows = look_does look knows
  step_does (locks same named live between) knows = stays refl refl refl (inr (refl, refl)) refl
  step_does (locks_read same named live between unworn taken small) knows = stays refl refl refl (inr (refl, refl)) refl
  step_does (stores {n = n} {w = w} {h = h} has content small clean soils learnt means) knows = stays (unready n w h clean.ready) refl refl (inr (refl, refl)) refl
  step_does (commits {n = n} {w = w} {h = h} has content small clean durable soiled old about learnt means) knows = stays (unready n w h clean.ready) refl refl (inr (refl, refl)) refl
  step_does (drains {n = n} {w = w} {h = h} has small is hand cleans) knows = stays (unready n w h is) refl refl (inr (refl, refl)) refl
  step_does (counts {h = h} {c = c} durable ready pending unplaced) knows =
      adds {c = c} (subst (λ b. elim b [ true ↦ h.pending | false ↦ None ] ≡ Some c) (sym ready) pending) unplaced refl refl refl (inr (refl, refl)) refl
  step_does (unlocks {n = n} {w = w} {x = x} {h = h} {r = r} next pending durable is answers) knows = answer_does l f _ n w x h r refl (unready n w h is) answers
  step_does (claims may here same) knows = stays refl (sym may.unplaced) refl (inl tt) refl
  step_does (publishes next left fresh) knows = stays refl refl refl (inl tt) refl
  step_does (leaves next) knows = ends refl (λ no. no) refl refl
  step_does (splits (fills has positive small within soils told)) knows = stays refl refl refl (inl tt) refl
  step_does (splits (lights here leads)) knows = stays refl refl refl (inl tt) refl
  step_does (splits (switches {left = left} {fresh = fresh} {seen = seen} {dirty = dirty} here small durable soiled cut told means)) knows =
      let is = cut_now l g f left fresh knows cut in
      cuts refl refl refl refl refl (inl tt) (record {
        left = left;
        fresh = fresh;
        is = refl;
        inside = knows.at.asked.inside;
        had = knows.at.asked.had;
        lower = range_left l f list left.node fresh.node knows.at.listed knows.at.unlisted knows.new.here (map_now f) is ∙ ap (below_key (range_of l f left.node)) is.anchored;
        upper = range_fresh l f list left.node fresh.node knows.at.listed knows.at.unlisted knows.new.here (map_now f) is ∙ ap (from_key (range_of l f left.node)) is.anchored;
        halved = switch_halves l g f left fresh knows is;
      })
  step_does (splits (glances_left {x = x} {offset = offset} {left = left} {fresh = fresh} {phase = phase} {seen = seen} has learnt)) knows = stays refl refl (same_phase left (record left { seen = seen; hand = Some (offset, x) }) fresh fresh phase) (inl tt) refl
  step_does (splits (glances_fresh {x = x} {offset = offset} {left = left} {fresh = fresh} {phase = phase} has)) knows = stays refl refl (same_phase left left fresh (record fresh { hand = Some (offset, x) }) phase) (inl tt) refl
  step_does (splits (drains_left {left = left} {fresh = fresh} {phase = phase} {dirty = dirty} has small hand cleans)) knows = stays refl refl (same_phase left (record left { dirty = dirty; hand = None }) fresh fresh phase) (inl tt) refl
  step_does (splits (drains_fresh {left = left} {fresh = fresh} {phase = phase} {dirty = dirty} has small hand cleans)) knows = stays refl refl (same_phase left left fresh (record fresh { dirty = dirty; hand = None }) phase) (inl tt) refl
  step_does (splits (trims here small durable soiled anchor told means)) knows = stays refl refl refl (inl tt) refl
  step_does (merges (meets here same may next)) knows = stays refl refl refl (inr (refl, refl)) refl
  step_does (merges (knows_own has positive learnt)) knows = stays refl refl refl (inr (refl, refl)) refl
  step_does (merges (knows_right has positive told)) knows = stays refl refl refl (inr (refl, refl)) refl
  step_does (merges (copies has content small soils learnt means)) knows = stays refl refl refl (inr (refl, refl)) refl
  step_does (merges (takes_up has)) knows = stays refl refl refl (inr (refl, refl)) refl
  step_does (merges (puts_down has small hand cleans)) knows = stays refl refl refl (inr (refl, refl)) refl
  step_does (merges (parts next)) knows = stays refl refl refl (inr (refl, refl)) refl
  step_does (merges (gathers small durable soiled told gathered)) knows = stays refl refl refl (inr (sym knows.1.unmerged, sym knows.1.unmerged)) refl
  step_does (merges (joins {h = h} {left = left} {right = right} {seen = seen} {dirty = dirty} small durable soiled next told)) knows =
      drops (record { held = h; left = left; right = right; after = record left { seen = seen; dirty = dirty; hand = None }; was = refl; is = refl }) refl
  step_does (merges (glances_joined has learnt)) knows = stays refl refl refl (inr (refl, refl)) refl
  step_does (merges (drains_joined has small hand cleans)) knows = stays refl refl refl (inr (refl, refl)) refl
  step_does (merges (retires {h = h} {left = left} {right = right} durable)) knows = buries (record { held = h; left = left; right = right; was = refl; is = refl }) refl (record {
    node = right.node;
    within = knows.other.here;
    others = λ k other. ap (λ b. cond b gone_status (f.status k)) (ne_eqb k right.node other);
    is = ap (λ b. cond b gone_status (f.status right.node)) (eq-eqb right.node right.node refl);
    wasnt = λ gone. let no : 1 ≡ 2 = sym knows.at.bright ∙ gone in omega arith;
  })
  step_does (merges (yields next durable)) knows = stays refl refl refl (inr (refl, refl)) refl

read_idle : {l : Layout} {g : ℕ} {s : Stage} {a : Action} {x : ℕ} {t : Stage} {r : Option (Once Placed)} {answer : Once Placed} → Read l g s a x t r → r ≡ Some answer → t ≡ Idle
read_idle (views loose here free) is = absurd (cc)
read_idle (views_live here live) is = absurd (cc)
read_idle (views_word has positive live next learnt) is = absurd (cc)
read_idle (views_next has low high ne live live' next leads learnt) is = absurd (cc)
read_idle (dates named live between kept) is = absurd (cc)
read_idle (notes has positive learnt) is = absurd (cc)
read_idle (finds has positive learnt decided) is = absurd (cc)
read_idle (confirms here same unplaced unlimited time old) is = refl
read_idle (wavers here other) is = refl

-- after an answer it relies on nothing
look_idle : {l : Layout} {g : ℕ} {s : Stage} {a : Action} {x : ℕ} {t : Stage} {r : Option (Once Placed)} {answer : Once Placed} → Look l g s a x t r → r ≡ Some answer → t ≡ Idle
look_idle (turns_back loose here busy) is = refl
look_idle (wears loose here free worn) is = absurd (cc)
look_idle (roams has) is = absurd (cc)
look_idle (roams_status here) is = absurd (cc)
look_idle (is_worn has) is = refl
look_idle (sees loose here free unworn lock) is = absurd (cc)
look_idle (finds_live here live) is = absurd (cc)
look_idle (watches has positive live next learnt) is = absurd (cc)
look_idle (watches_next has low high ne live live' next leads learnt) is = absurd (cc)
look_idle (turns_away loose here up) is = refl
look_idle (steps_back loose here up) is = refl
look_idle (wanders loose here up) is = refl
look_idle (peeks here unready) is = absurd (cc)
look_idle (peeks_status here unready) is = absurd (cc)
look_idle (eyes clean durable here nonzero free unworn lock) is = absurd (cc)
look_idle (eyes_free here free) is = absurd (cc)
look_idle (passes here) is = absurd (cc)
look_idle (loses here other) is = absurd (cc)
look_idle (misses other) is = refl
look_idle (misses_read other small) is = refl
look_idle (times clean below) is = absurd (cc)
look_idle (learns has positive unready learnt) is = absurd (cc)
look_idle (decides has positive clean durable about learnt decided) is = absurd (cc)
look_idle (reads_on k) is = read_idle k is
look_idle (glances has unready) is = absurd (cc)

pub answers_idle : {l : Layout} {g : ℕ} {s : Stage} {a : Action} {x : ℕ} {t : Stage} {r : Option (Once Placed)} {answer : Once Placed} → Step l g s a x t r → r ≡ Some answer → t ≡ Idle
answers_idle (looks look) is = look_idle look is
answers_idle (locks same named live between) is = absurd (cc)
answers_idle (locks_read same named live between unworn taken small) is = absurd (cc)
answers_idle (stores has content small clean soils learnt means) is = absurd (cc)
answers_idle (commits has content small clean durable soiled old about learnt means) is = absurd (cc)
answers_idle (drains has small unready hand cleans) is = absurd (cc)
answers_idle (counts durable ready pending unplaced) is = absurd (cc)
answers_idle (unlocks next pending durable unready answers) is = refl
answers_idle (claims may here same) is = absurd (cc)
answers_idle (publishes next left fresh) is = absurd (cc)
answers_idle (leaves next) is = refl
answers_idle (splits k) is = absurd (cc)
answers_idle (merges k) is = absurd (cc)
