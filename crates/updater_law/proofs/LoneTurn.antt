-- A turn with nothing else in flight.
use Rattle.std.proofs.Common.{◌≡◌, ◌≢◌, ℕ, suc, ◌<◌, ◌⊎◌, true, false, inl, inr, refl, sym, subst, ap, ◌∙◌, arith}
use Rattle.std.proofs.lemmas.Bool.{cases_eq, cases_lt}
use Rattle.pm_words.specs.Codes.{empty_state, free_status, gone_status, ready_state}
use Rattle.updater_law.specs.Covers.{set_at}
use Rattle.updater_law.specs.Facts.{TurnTerms, TurnFacts}
use Rattle.updater_law.specs.TurnStages.{TurnStage, Resting, Between, Sees, SeesKind, SeesNode, Lands, Changes, Stamps, Clears, Sweeps, Gone, HasStamp, IsUnworn, Frees, Counts}
use Rattle.updater_law.specs.TurnSteps.{TurnStep, takes_lock, leaves_lock, passes, sees, sees_kind, sees_node, sees_anchor, walks, leaves_line, decides, changes, has_changed_merge, has_changed_split, stamps, empties, sweeps, passes_node, sees_gone, passes_stamp, sees_stamp, passes_worn, sees_unworn, unstamps, frees, starts_count, counts_free, counts}
use Rattle.updater_law.specs.Lawful.{TurnLawful}
use Rattle.updater_law.specs.Lone.{IsAlone, Leaves, LoneRun, starts, steps, AreEmpty, AreFreedTo, LoneTurn}
use Rattle.updater_law.proofs.Columns.{here, other}
use Rattle.updater_law.proofs.TurnLaw.{turn_keeps}

-- What the turn has done at each stage.

abbrev AreEmptyTo : TurnFacts → ℕ → Type 0
AreEmptyTo f j = (i : ℕ) → i < j → f.line.state i ≡ empty_state

abbrev IsDone : TurnTerms → TurnFacts → TurnStage → Type 0
IsDone c f Resting = Unit {0}
IsDone c f (Between j) = AreEmptyTo f j
IsDone c f (Sees j) = AreEmptyTo f j
IsDone c f (SeesKind j kind) = AreEmptyTo f j
IsDone c f (SeesNode j kind node) = AreEmptyTo f j
IsDone c f (Lands e) = AreEmptyTo f e.line
IsDone c f (Changes e found) = AreEmptyTo f e.line
IsDone c f (Stamps e) = AreEmptyTo f e.line
IsDone c f (Clears j) = AreEmptyTo f j
IsDone c f (Sweeps n) = AreEmpty f × AreFreedTo c f n
IsDone c f (Gone n) = AreEmpty f × AreFreedTo c f n
IsDone c f (HasStamp n) = AreEmpty f × AreFreedTo c f n
IsDone c f (IsUnworn n) = AreEmpty f × AreFreedTo c f n
IsDone c f (Frees n) = AreEmpty f × AreFreedTo c f n
IsDone c f (Counts n none) = AreEmpty f × AreFreedTo c f c.nodes

-- with a line emptied
emptied : (f : TurnFacts) (j i : ℕ) → f.line.state i ≡ empty_state → set_at f.line.state j empty_state i ≡ empty_state
emptied f j i empty = elim (cases_eq i j) [ inl e ↦ here f.line.state j i empty_state e | inr ne ↦ other f.line.state j i empty_state ne ∙ empty ]

emptied_to : (f : TurnFacts) (j : ℕ) → AreEmptyTo f j → (i : ℕ) → i < suc j → set_at f.line.state j empty_state i ≡ empty_state
emptied_to f j empty i lt = elim (cases_eq i j) [ inl e ↦ here f.line.state j i empty_state e | inr ne ↦ other f.line.state j i empty_state ne ∙ empty i (omega (arith, ne)) ]

alone_emptied : (c : TurnTerms) (f : TurnFacts) (j : ℕ) → IsAlone c f → IsAlone c (record f { line = record (f.line) { state = set_at f.line.state j empty_state } })
alone_emptied c f j is = record {
  free = is.free;
  lines = λ i. elim (cases_eq i j) [
    | inl e ↦ inl (here f.line.state j i empty_state e)
    | inr ne ↦ elim (is.lines i) [ inl empty ↦ inl (other f.line.state j i empty_state ne ∙ empty) | inr ready ↦ inr (other f.line.state j i empty_state ne ∙ ready) ]
  ];
  beyond = λ i past. emptied f j i (is.beyond i past);
}

alone_after : (c : TurnTerms) {f f' : TurnFacts} {s t : TurnStage} → TurnStep c f s f' t → IsAlone c f → IsAlone c f'
alone_after c takes_lock is = is
alone_after c (passes j other_state) is = is
alone_after c (sees j ready) is = is
alone_after c (sees_kind j) is = is
alone_after c (sees_node j kind) is = is
alone_after c (sees_anchor j kind node) is = is
alone_after c walks is = is
alone_after c (leaves_line e) is = is
alone_after c (decides e m target free within) is = is
alone_after c (changes e found layer safe same here_or durable) is = record { free = is.free; lines = is.lines; beyond = is.beyond }
alone_after c (has_changed_merge e found layer safe same here_is durable kind) is = record { free = is.free; lines = is.lines; beyond = is.beyond }
alone_after c (has_changed_split e found layer safe same here_is durable kind) is = record { free = is.free; lines = is.lines; beyond = is.beyond }
alone_after c (stamps e) is = record { free = is.free; lines = is.lines; beyond = is.beyond }
alone_after c {f = f} (empties j) is = alone_emptied c f j is
alone_after c (sweeps j done) is = is
alone_after c (passes_node m other_status) is = is
alone_after c (sees_gone m gone) is = is
alone_after c (passes_stamp m why) is = is
alone_after c (sees_stamp m some_stamp at_most) is = is
alone_after c (passes_worn m worn) is = is
alone_after c (sees_unworn m unworn) is = is
alone_after c (unstamps m) is = record { free = is.free; lines = is.lines; beyond = is.beyond }
alone_after c (frees m) is = record { free = is.free; lines = is.lines; beyond = is.beyond }
alone_after c (starts_count m done) is = is
alone_after c (counts_free m all free) is = is
alone_after c (counts m all taken) is = is
alone_after c (leaves_lock m all done) is = is

-- a merged node without a stamp has a line that is ready, or is held
has_stamp : (c : TurnTerms) (f : TurnFacts) (n : ℕ) → TurnLawful c f (Gone n) → IsAlone c f → AreEmpty f → f.stamp n ≢ 0
has_stamp c f n law alone empty bare = elim (law.owned n law.sure bare) [
  | inl ready ↦ let none : f.line.state ready.line ≡ empty_state = empty ready.line in let two : f.line.state ready.line ≡ ready_state = ready.state in omega arith
  | inr (inl held) ↦ let no_way : false ≡ true = sym (alone.free n) ∙ held in cc
  | inr (inr mine) ↦ mine
]

freed_more : (c : TurnTerms) (f : TurnFacts) (n : ℕ) → AreFreedTo c f n → (f.status n ≡ gone_status → (f.worn n ≡ true) ⊎ (c.release < f.stamp n)) → AreFreedTo c f (suc n)
freed_more c f n freed this m lt = elim (cases_eq m n) [
  | inl e ↦ subst (λ k. f.status k ≡ gone_status → (f.worn k ≡ true) ⊎ (c.release < f.stamp k)) (sym e) this
  | inr ne ↦ freed m (omega (arith, ne))
]

done_after : (c : TurnTerms) {f f' : TurnFacts} {s t : TurnStage} (k : TurnStep c f s f' t) → (Leaves k → ⊥) → TurnLawful c f s → IsAlone c f → IsDone c f s → IsDone c f' t
done_after c takes_lock stays law alone done = λ i lt. absurd (omega arith)
done_after c {f = f} (passes j other_state) stays law alone done = λ i lt. elim (cases_eq i j) [
  | inl e ↦ elim (alone.lines i) [ inl empty ↦ empty | inr ready ↦ absurd (other_state (ap f.line.state (sym e) ∙ ready)) ]
  | inr ne ↦ done i (omega (arith, ne))
]
done_after c (sees j ready) stays law alone done = done
done_after c (sees_kind j) stays law alone done = done
done_after c (sees_node j kind) stays law alone done = done
done_after c (sees_anchor j kind node) stays law alone done = done
done_after c walks stays law alone done = done
done_after c (leaves_line e) stays law alone done = absurd (stays tt)
done_after c (decides e m target free within) stays law alone done = done
done_after c (changes e found layer safe same here_or durable) stays law alone done = done
done_after c (has_changed_merge e found layer safe same here_is durable kind) stays law alone done = done
done_after c (has_changed_split e found layer safe same here_is durable kind) stays law alone done = done
done_after c (stamps e) stays law alone done = done
done_after c {f = f} (empties j) stays law alone done = emptied_to f j done
done_after c (sweeps j past) stays law alone done = (
  λ i. elim (cases_lt i j) [ inl below ↦ done i below | inr above ↦ alone.beyond i (omega arith) ],
  λ m lt. absurd (omega arith),
)
done_after c {f = f} (passes_node n other_status) stays law alone done = (done.0, freed_more c f n done.1 (λ gone. absurd (other_status gone)))
done_after c (sees_gone n gone) stays law alone done = done
done_after c {f = f} (passes_stamp n why) stays law alone done =
    (done.0, freed_more c f n done.1 (λ gone. elim why [ inl bare ↦ absurd (has_stamp c f n law alone done.0 bare) | inr past ↦ inr past ]))
done_after c (sees_stamp n some_stamp at_most) stays law alone done = done
done_after c {f = f} (passes_worn n worn) stays law alone done = (done.0, freed_more c f n done.1 (λ gone. inl worn))
done_after c (sees_unworn n unworn) stays law alone done = done
done_after c {f = f} (unstamps n) stays law alone done = (
  done.0,
  λ m lt gone. elim (done.1 m lt gone) [
    | inl worn ↦ inl worn
    | inr past ↦ inr (let same : set_at f.stamp n 0 m ≡ f.stamp m = other f.stamp n m 0 (λ e. omega arith) in omega arith)
  ],
)
done_after c {f = f} (frees n) stays law alone done = (
  done.0,
  λ m lt gone. elim (cases_eq m n) [
    | inl e ↦ absurd (let none : set_at f.status n free_status m ≡ free_status = here f.status n m free_status e in omega arith)
    | inr ne ↦ done.1 m (omega (arith, ne)) (sym (other f.status n m free_status ne) ∙ gone)
  ],
)
done_after c (starts_count n past) stays law alone done = (done.0, λ m lt. done.1 m (omega arith))
done_after c (counts_free n all free) stays law alone done = done
done_after c (counts n all taken) stays law alone done = done
done_after c (leaves_lock n all past) stays law alone done = tt

record SameList (f f' : TurnFacts) : Type 0 where
  pub listed : f'.listed ≡ f.listed
  pub anchor : f'.anchor ≡ f.anchor

list_after : (c : TurnTerms) {f f' : TurnFacts} {s t : TurnStage} → TurnStep c f s f' t → SameList f f'
list_after c takes_lock = record { listed = refl; anchor = refl }
list_after c (passes j other_state) = record { listed = refl; anchor = refl }
list_after c (sees j ready) = record { listed = refl; anchor = refl }
list_after c (sees_kind j) = record { listed = refl; anchor = refl }
list_after c (sees_node j kind) = record { listed = refl; anchor = refl }
list_after c (sees_anchor j kind node) = record { listed = refl; anchor = refl }
list_after c walks = record { listed = refl; anchor = refl }
list_after c (leaves_line e) = record { listed = refl; anchor = refl }
list_after c (decides e m target free within) = record { listed = refl; anchor = refl }
list_after c (changes e found layer safe same here_or durable) = record { listed = refl; anchor = refl }
list_after c (has_changed_merge e found layer safe same here_is durable kind) = record { listed = refl; anchor = refl }
list_after c (has_changed_split e found layer safe same here_is durable kind) = record { listed = refl; anchor = refl }
list_after c (stamps e) = record { listed = refl; anchor = refl }
list_after c (empties j) = record { listed = refl; anchor = refl }
list_after c (sweeps j done) = record { listed = refl; anchor = refl }
list_after c (passes_node m other_status) = record { listed = refl; anchor = refl }
list_after c (sees_gone m gone) = record { listed = refl; anchor = refl }
list_after c (passes_stamp m why) = record { listed = refl; anchor = refl }
list_after c (sees_stamp m some_stamp at_most) = record { listed = refl; anchor = refl }
list_after c (passes_worn m worn) = record { listed = refl; anchor = refl }
list_after c (sees_unworn m unworn) = record { listed = refl; anchor = refl }
list_after c (unstamps m) = record { listed = refl; anchor = refl }
list_after c (frees m) = record { listed = refl; anchor = refl }
list_after c (starts_count m done) = record { listed = refl; anchor = refl }
list_after c (counts_free m all free) = record { listed = refl; anchor = refl }
list_after c (counts m all taken) = record { listed = refl; anchor = refl }
list_after c (leaves_lock m all done) = record { listed = refl; anchor = refl }

record LoneSoFar (c : TurnTerms) (f f' : TurnFacts) (t : TurnStage) : Type 0 where
  pub law : TurnLawful c f' t
  pub alone : IsAlone c f'
  pub done : IsDone c f' t
  pub same : SameList f f'

lone_runs : (c : TurnTerms) {f f' : TurnFacts} {t : TurnStage} → TurnLawful c f Resting → IsAlone c f → LoneRun c f Resting f' t → LoneSoFar c f f' t
lone_runs c law alone starts = record { law = law; alone = alone; done = tt; same = record { listed = refl; anchor = refl } }
lone_runs c law alone (steps {f' = f'} {f'' = f''} {t = t} {u = u} run k stays) =
    let so_far = lone_runs c law alone run in
    let same = list_after c k in
    record {
      law = turn_keeps c f' f'' t u so_far.law k;
      alone = alone_after c k so_far.alone;
      done = done_after c k stays so_far.law so_far.alone so_far.done;
      same = record { listed = same.listed ∙ so_far.same.listed; anchor = same.anchor ∙ so_far.same.anchor };
    }

pub lone_turn : LoneTurn
lone_turn c f f' n none law alone run past =
    let end = lone_runs c law alone run in
    record {
      empty = end.done.0;
      freed = end.done.1;
      listed = end.same.listed;
      anchor = end.same.anchor;
      none_free = λ all m lt. end.law.sure all m (omega arith);
    }
