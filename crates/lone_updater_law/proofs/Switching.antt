-- When a call makes its switch, and how it ends.
use Rattle.std.proofs.Common.{◌≡◌, ◌≢◌, ℕ, ◌⊎◌, inl, inr, Bool, true, false, refl, sym, subst, ◌∙◌}
use Rattle.std.specs.Prelude.{Option, Some, None}
use Rattle.pm_words.specs.declared.layout.Layout.{Layout}
use Rattle.pm_words.specs.declared.action.Action.{Action}
use Rattle.pm_words.specs.declared.again.Again.{Again}
use Rattle.pm_words.specs.declared.again.Again.TheVariants as again
use Rattle.call_stages.specs.declared.once.Once.{Once}
use Rattle.call_stages.specs.declared.once.Once.TheVariants as once
use Rattle.call_stages.specs.declared.once.Placed.{Placed}
use Rattle.call_stages.specs.Stages.{Held, Grip, Stage, Saw, Wears, Holds, Splits, Leaves, Filling, Linked, Parted, Phase, IsLoose, placed_in}
use Rattle.call_stages.specs.Prevs.{IsSwitch}
use Rattle.call_stages.specs.Kinds.{Look, turns_back, is_worn, wears, roams, roams_status, sees, misses, misses_read, times, learns, decides, glances, finds_live, watches, watches_next, turns_away, steps_back, wanders, Split, fills, lights, switches, glances_left, glances_fresh, drains_left, drains_fresh, trims, splits, Merge, meets, knows_own, knows_right, copies, takes_up, puts_down, parts, gathers, joins, glances_joined, drains_joined, retires, yields, merges, peeks, peeks_status, eyes, eyes_free, passes, loses, claims, publishes, leaves, Step, looks, locks, locks_read, stores, commits, drains, counts, unlocks, GivesUp, Answers, writes, reads, is_spent, has_no_room, refuses, IsRefusal}
use Rattle.index_law.specs.LoneShapes.{has_merged}
use Rattle.index_law.proofs.Loose.{out_unmerged, loose_out}
use Rattle.lone_call_law.specs.Tries.{is_cut}
use Rattle.lone_call_law.proofs.Cuts.{loose_uncut}
use Rattle.lone_updater_law.specs.CallLogs.{HasNotSwitched}
use Rattle.call_stages.specs.Kinds.{Read, views, views_live, views_word, views_next, dates, notes, finds, confirms, wavers, reads_on}
use Rattle.call_stages.specs.Stages.{Reads}
use Rattle.index_law.proofs.Moves.{read_before, read_after}

loose_not : (s : Stage) → IsLoose s → HasNotSwitched s
loose_not s loose = (loose_uncut s loose, out_unmerged s (loose_out s loose))

-- the phase alone tells
one_phase : (left fresh left' fresh' : Grip) (phase : Phase) → is_cut (Splits left' fresh' phase) ≡ is_cut (Splits left fresh phase)
one_phase left fresh left' fresh' (Filling lit) = refl
one_phase left fresh left' fresh' Linked = refl
one_phase left fresh left' fresh' Parted = refl

look_cut : {l : Layout} {g : ℕ} {s : Stage} {a : Action} {x : ℕ} {t : Stage} {r : Option (Once Placed)} → Look l g s a x t r → is_cut t ≡ is_cut s
look_cut (turns_back {s = s} loose here locked) = sym (loose_uncut s loose)
look_cut (wears {s = s} loose here free worn) = sym (loose_uncut s loose)
look_cut (roams has) = refl
look_cut (roams_status here) = refl
look_cut (is_worn has) = refl
look_cut (sees {s = s} loose here free fresh is) = sym (loose_uncut s loose)
look_cut (finds_live here live) = refl
look_cut (watches has positive live next learnt) = refl
look_cut (watches_next has low high some live still next leads learnt) = refl
look_cut (turns_away {s = s} loose here gives) = sym (loose_uncut s loose)
look_cut (steps_back {s = s} loose here gives) = sym (loose_uncut s loose)
look_cut (wanders {s = s} loose has gives) = sym (loose_uncut s loose)
look_cut (peeks here unready) = refl
look_cut (peeks_status here unready) = refl
look_cut (eyes still durable here some free fresh is) = refl
look_cut (eyes_free here free) = refl
look_cut (passes here) = refl
look_cut (loses here other) = refl
look_cut (misses other) = refl
look_cut (misses_read other small) = refl
look_cut (times clean below) = refl
look_cut (learns has positive unready learnt) = refl
look_cut (decides has positive clean durable about learnt decided) = refl
look_cut (reads_on {s = s} {t = t} k) = loose_uncut t (read_after k) ∙ sym (loose_uncut s (read_before k))
look_cut (glances has unready) = refl

split_cut : {l : Layout} {g : ℕ} {s : Stage} {a : Action} {x : ℕ} {t : Stage} → Split l g s a x t → (is_cut t ≡ is_cut s) ⊎ IsSwitch s t
split_cut (fills has positive small next soils learnt) = inl refl
split_cut (lights here next) = inl refl
split_cut (switches {left = left} {fresh = fresh} here small durable soiled cut learnt means) = inr (record { left = left; fresh = fresh; after = _; was = refl; is = refl })
split_cut (glances_left {x = x} {offset = offset} {left = left} {fresh = fresh} {phase = phase} {seen = seen} has learnt) = inl (one_phase left fresh (record left { seen = seen; hand = Some (offset, x) }) fresh phase)
split_cut (glances_fresh {x = x} {offset = offset} {left = left} {fresh = fresh} {phase = phase} has) = inl (one_phase left fresh left (record fresh { hand = Some (offset, x) }) phase)
split_cut (drains_left {left = left} {fresh = fresh} {phase = phase} {dirty = dirty} has small hand cleans) = inl (one_phase left fresh (record left { dirty = dirty; hand = None }) fresh phase)
split_cut (drains_fresh {left = left} {fresh = fresh} {phase = phase} {dirty = dirty} has small hand cleans) = inl (one_phase left fresh left (record fresh { dirty = dirty; hand = None }) phase)
split_cut (trims here small durable soiled anchor learnt means) = inl refl

merge_cut : {l : Layout} {g : ℕ} {s : Stage} {a : Action} {x : ℕ} {t : Stage} → Merge l g s a x t → is_cut t ≡ is_cut s
merge_cut (meets here same may leads) = refl
merge_cut (knows_own has positive learnt) = refl
merge_cut (knows_right has positive learnt) = refl
merge_cut (copies has content small soils learnt means) = refl
merge_cut (takes_up has) = refl
merge_cut (puts_down has small hand cleans) = refl
merge_cut (parts freed) = refl
merge_cut (gathers small durable soiled learnt means) = refl
merge_cut (joins small durable soiled next learnt) = refl
merge_cut (glances_joined has learnt) = refl
merge_cut (drains_joined has small hand cleans) = refl
merge_cut (retires durable) = refl
merge_cut (yields freed durable) = refl

-- A step without an answer leaves whether a member was cut, or is the switch of a split.
pub cut_moves : {l : Layout} {g : ℕ} {s : Stage} {a : Action} {x : ℕ} {t : Stage} {r : Option (Once Placed)} → Step l g s a x t r → r ≡ None → (is_cut t ≡ is_cut s) ⊎ IsSwitch s t
cut_moves (looks look) none = inl (look_cut look)
cut_moves (locks same named live between) none = inl refl
cut_moves (locks_read same named live between unworn taken small) none = inl refl
cut_moves (stores has content small clean soils learnt means) none = inl refl
cut_moves (commits has content small clean durable soiled old about learnt means) none = inl refl
cut_moves (drains has small unready hand cleans) none = inl refl
cut_moves (counts durable ready pending unplaced) none = inl refl
cut_moves (unlocks next pending durable unready answers) none = absurd (cc)
cut_moves (splits k) none = split_cut k
cut_moves (merges k) none = inl (merge_cut k)
cut_moves (claims may here same) none = inl refl
cut_moves (publishes next left fresh) none = inl refl
cut_moves (leaves next) none = absurd (cc)

-- What an answer tells of the stage that it ends: a cut is answered by NeedsSplit, and a merge by a place.
abbrev pub Told : Once Placed → Stage → Type 0
Told (once.Done placed) s = is_cut s ≡ false
Told (once.Again (again.NeedsSplit node)) s = is_cut s ≡ true
Told answer s = HasNotSwitched s

some_same : {a b : Once Placed} → Some a ≡ Some b → a ≡ b
some_same e = cc

gives_not : (r : Option (Once Placed)) (answer : Once Placed) (s : Stage) → GivesUp r → r ≡ Some answer → HasNotSwitched s → Told answer s
gives_not None answer s gives is not_switched = absurd (cc)
gives_not (Some (once.Done placed)) answer s gives is not_switched = absurd gives
gives_not (Some (once.Spent clock)) answer s gives is not_switched = absurd gives
gives_not (Some (once.Worn node word)) answer s gives is not_switched = absurd gives
gives_not (Some (once.Again (again.Hops count))) answer s gives is not_switched = subst (λ (d : Once Placed). Told d s) (some_same is) not_switched
gives_not (Some (once.Again (again.Locked n word))) answer s gives is not_switched = absurd gives
gives_not (Some (once.Again (again.Moved n first second))) answer s gives is not_switched = absurd gives
gives_not (Some (once.Again (again.NeedsSplit n))) answer s gives is not_switched = absurd gives
gives_not (Some (once.Again again.LogFull)) answer s gives is not_switched = absurd gives
gives_not (Some (once.Again again.NoFree)) answer s gives is not_switched = absurd gives
gives_not (Some (once.Again (again.Held word))) answer s gives is not_switched = absurd gives
gives_not (Some (once.Again (again.Epoch first second))) answer s gives is not_switched = absurd gives

read_told : {l : Layout} {g : ℕ} {s : Stage} {a : Action} {x : ℕ} {t : Stage} {r : Option (Once Placed)} → Read l g s a x t r → (answer : Once Placed) → r ≡ Some answer → Told answer s
read_told (views loose here free) answer is = absurd (cc)
read_told (views_live here live) answer is = absurd (cc)
read_told (views_word has positive live next learnt) answer is = absurd (cc)
read_told (views_next has low high some live still next leads learnt) answer is = absurd (cc)
read_told (dates named live between kept) answer is = absurd (cc)
read_told (notes has positive learnt) answer is = absurd (cc)
read_told (finds has positive learnt decided) answer is = absurd (cc)
read_told (confirms {n = n} {v = v} {k = k} {h = h} here same unplaced unlimited time old) answer is = subst (λ (d : Once Placed). Told d (Reads n v k (Some h))) (some_same is) refl
read_told (wavers {n = n} {v = v} {k = k} {h = h} here other) answer is = subst (λ (d : Once Placed). Told d (Reads n v k h)) (some_same is) (refl, refl)

look_told : {l : Layout} {g : ℕ} {s : Stage} {a : Action} {x : ℕ} {t : Stage} {r : Option (Once Placed)} → Look l g s a x t r → (answer : Once Placed) → r ≡ Some answer → Told answer s
look_told (turns_back {s = s} loose here locked) answer is = subst (λ (d : Once Placed). Told d s) (some_same is) (loose_not s loose)
look_told (wears loose here free worn) answer is = absurd (cc)
look_told (roams has) answer is = absurd (cc)
look_told (roams_status here) answer is = absurd (cc)
look_told (is_worn {n = n} {v = v} has) answer is = subst (λ (d : Once Placed). Told d (Wears n v)) (some_same is) (refl, refl)
look_told (sees loose here free fresh same) answer is = absurd (cc)
look_told (finds_live here live) answer is = absurd (cc)
look_told (watches has positive live next learnt) answer is = absurd (cc)
look_told (watches_next has low high some live still next leads learnt) answer is = absurd (cc)
look_told (turns_away {s = s} {r = r} loose here gives) answer is = gives_not r answer s gives is (loose_not s loose)
look_told (steps_back {s = s} {r = r} loose here gives) answer is = gives_not r answer s gives is (loose_not s loose)
look_told (wanders {s = s} {r = r} loose has gives) answer is = gives_not r answer s gives is (loose_not s loose)
look_told (peeks here unready) answer is = absurd (cc)
look_told (peeks_status here unready) answer is = absurd (cc)
look_told (eyes still durable here some free fresh same) answer is = absurd (cc)
look_told (eyes_free here free) answer is = absurd (cc)
look_told (passes here) answer is = absurd (cc)
look_told (loses here other) answer is = absurd (cc)
look_told (misses {n = n} {v = v} {w = w} {k = k} other) answer is = subst (λ (d : Once Placed). Told d (Saw n v w k)) (some_same is) (refl, refl)
look_told (misses_read {n = n} {v = v} {w = w} {k = k} other small) answer is = subst (λ (d : Once Placed). Told d (Reads n v k None)) (some_same is) (refl, refl)
look_told (times clean below) answer is = absurd (cc)
look_told (learns has positive unready learnt) answer is = absurd (cc)
look_told (decides has positive clean durable about learnt decided) answer is = absurd (cc)
look_told (reads_on k) answer is = read_told k answer is
look_told (glances has unready) answer is = absurd (cc)

-- a call without a place has merged nothing
unplaced : (n w : ℕ) (h : Held) → (has_merged (Holds n w h) ≡ true → placed_in (Holds n w h) ≢ None) → h.placed ≡ None → h.merged ≡ false
unplaced n w h merged none = elim h.merged as (λ (b : Bool). h.merged ≡ b → b ≡ false) [
  | true ↦ λ is. absurd (merged is none)
  | false ↦ λ is. refl
] refl

holds_told : (l : Layout) (n w : ℕ) (h : Held) (answer : Once Placed) → (has_merged (Holds n w h) ≡ true → placed_in (Holds n w h) ≢ None) → Answers l h answer → Told answer (Holds n w h)
holds_told l n w h answer merged (writes place old) = refl
holds_told l n w h answer merged (reads none time old) = refl
holds_told l n w h answer merged (is_spent none time) = (refl, unplaced n w h merged none)
holds_told l n w h answer merged (has_no_room none time old full) = (refl, unplaced n w h merged none)
holds_told l n w h answer merged (refuses {why = why} none refusal) = why_told why refusal
  where
    why_told : (why : Again) → IsRefusal why → Told (once.Again why) (Holds n w h)
    why_told (again.Locked m word) refusal = (refl, unplaced n w h merged none)
    why_told (again.Moved m first second) refusal = (refl, unplaced n w h merged none)
    why_told again.LogFull refusal = (refl, unplaced n w h merged none)
    why_told (again.Hops count) refusal = absurd refusal
    why_told (again.NeedsSplit m) refusal = absurd refusal
    why_told again.NoFree refusal = absurd refusal
    why_told (again.Held word) refusal = absurd refusal
    why_told (again.Epoch first second) refusal = absurd refusal

pub answer_told : {l : Layout} {g : ℕ} {s : Stage} {a : Action} {x : ℕ} {t : Stage} {r : Option (Once Placed)} → Step l g s a x t r → (has_merged s ≡ true → placed_in s ≢ None) → (answer : Once Placed) → r ≡ Some answer → Told answer s
answer_told (looks look) merged answer is = look_told look answer is
answer_told (locks same named live between) merged answer is = absurd (cc)
answer_told (locks_read same named live between unworn taken small) merged answer is = absurd (cc)
answer_told (stores has content small clean soils learnt means) merged answer is = absurd (cc)
answer_told (commits has content small clean durable soiled old about learnt means) merged answer is = absurd (cc)
answer_told (drains has small unready hand cleans) merged answer is = absurd (cc)
answer_told (counts durable ready pending none) merged answer is = absurd (cc)
answer_told {l = l} (unlocks {n = n} {w = w} {h = h} next pending durable unready answers) merged answer is = subst (λ (d : Once Placed). Told d (Holds n w h)) (some_same is) (holds_told l n w h _ merged answers)
answer_told (splits k) merged answer is = absurd (cc)
answer_told (merges k) merged answer is = absurd (cc)
answer_told (claims may here same) merged answer is = absurd (cc)
answer_told (publishes next left fresh) merged answer is = absurd (cc)
answer_told (leaves {left = left} next) merged answer is = subst (λ (d : Once Placed). Told d (Leaves left)) (some_same is) refl
