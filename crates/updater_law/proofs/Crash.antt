-- Evictions, crashes, the stamps of nodes that are made free, and a fresh index.
use Rattle.std.proofs.Common.{◌≡◌, ◌≢◌, ℕ, ◌==◌, true, false, cond, Option, Some, None, inl, inr, refl, sym, subst, ap, ◌∙◌, arith}
use Rattle.std.proofs.lemmas.Bool.{cases_eq, eqb-true, eq-eqb}
use Rattle.pm_words.specs.Codes.{gone_status, free_status, empty_state, ready_state}
use Rattle.updater_law.specs.Covers.{IsOpenFor, HasCover}
use Rattle.updater_law.specs.Facts.{TurnTerms, TurnFacts, IsListed}
use Rattle.updater_law.specs.TurnStages.{TurnStage, Resting, Between, Sees, SeesKind, SeesNode, Lands, Changes, Stamps, Clears, Sweeps, Gone, HasStamp, IsUnworn, Frees, Counts}
use Rattle.updater_law.specs.TurnSteps.{takes_lock, leaves_lock, passes, sees, sees_kind, sees_node, sees_anchor, walks, leaves_line, decides, changes, has_changed_merge, has_changed_split, stamps, empties, sweeps, passes_node, sees_gone, passes_stamp, sees_stamp, passes_worn, sees_unworn, unstamps, frees, starts_count, counts_free, counts}
use Rattle.updater_law.specs.Lawful.{TurnLawful}
use Rattle.updater_law.specs.Fresh.{no_lines, fresh_facts}
use Rattle.updater_law.specs.Laws.{LayerEvicts, CrashIsCovered, IsCoveredNow, KeysLeadApart, FreedAreReleased, StampWasReleased, FreshIsLawful}
use Rattle.updater_law.proofs.Columns.{here, other}
use Rattle.updater_law.proofs.Covers.{covered_more, covered_elsewhere, cover_is_open, cover_is_durable}
use Rattle.updater_law.proofs.Kept.{Kept, sure_kept, led_kept}

with_safe : (f : TurnFacts) (safe : ℕ → Option ℕ) → Kept f (record f { safe_layer = safe })
with_safe f safe = record {
  lines = record {
    state = λ j is. is;
    kind = λ j is. refl;
    node = λ j is. refl;
    anchor = λ j is. refl;
    covers = λ key line cover. cover;
    readies = λ j is kind. inl is;
  };
  nodes = record { status = λ n is. is; gone = λ n is. is; stamp = λ n. refl; worn = λ n free. refl; anchor = λ n is. refl; free = λ n gone is. is };
  list = λ key found has. inl has;
  layer = refl;
}

pub layer_evicts : LayerEvicts
layer_evicts c f s safe law durable =
    let f' : TurnFacts = record f { safe_layer = safe } in
    record {
      stamped_by = law.stamped_by;
      durable = durable;
      led = λ key node is. led_kept c f f' (with_safe f safe) s key node (law.led key node is);
      covered = law.covered;
      apart = law.apart;
      live = law.live;
      marked = law.marked;
      owned = λ n gone bare. elim (law.owned n gone bare) [ inl ready ↦ inl (record { line = ready.line; state = ready.state; kind = ready.kind; node = ready.node }) | inr rest ↦ inr rest ];
      ready = λ j ready. let r = law.ready j ready in record { safe_state = r.safe_state; safe_anchor = r.safe_anchor; busy = r.busy };
      merges = λ j ready kind. let m = law.merges j ready kind in record { gone = m.gone; anchor = m.anchor; stamp = m.stamp; alone = m.alone };
      sure = sure_kept c f f' (with_safe f safe) s (λ e is kind. ap f.status (sym is.node) ∙ (law.merges e.line is.state (is.kind ∙ kind)).gone) (λ n stamp. (law.marked n stamp).1) law.sure;
    }

-- the durable layer leads each key as the cached one does, but for one that a durable line has as its anchor
durable_same : (c : TurnTerms) (f : TurnFacts) (s : TurnStage) → TurnLawful c f s → (k : ℕ) → (IsOpenFor f.safe_line k → ⊥) → f.safe_layer k ≡ f.layer k
durable_same c f (Changes e found) law k bare =
    let is = law.sure in
    let ready = law.ready e.line is.at_hand.state in
    let open_key : IsOpenFor f.safe_line e.anchor = record { line = e.line; state = ready.safe_state; anchor = ready.safe_anchor ∙ is.at_hand.anchor } in
    law.durable k (λ same. bare (subst (IsOpenFor f.safe_line) (sym same) open_key))
durable_same c f (Stamps e) law k bare = law.durable k
durable_same c f (Clears j) law k bare = law.durable k
durable_same c f Resting law k bare = law.durable k
durable_same c f (Between j) law k bare = law.durable k
durable_same c f (Sees j) law k bare = law.durable k
durable_same c f (SeesKind j kind) law k bare = law.durable k
durable_same c f (SeesNode j kind n) law k bare = law.durable k
durable_same c f (Lands e) law k bare = law.durable k
durable_same c f (Sweeps n) law k bare = law.durable k
durable_same c f (Gone n) law k bare = law.durable k
durable_same c f (HasStamp n) law k bare = law.durable k
durable_same c f (IsUnworn n) law k bare = law.durable k
durable_same c f (Frees n) law k bare = law.durable k
durable_same c f (Counts n none) law k bare = law.durable k

pub crash_is_covered : CrashIsCovered
crash_is_covered c f s listed anchor law pending =
    covered_elsewhere (IsListed f) (λ n. listed n ≡ true) f.anchor anchor f.layer f.safe_layer (HasCover f.line f.safe_line) (IsOpenFor f.safe_line)
    (cover_is_durable f.line f.safe_line) (durable_same c f s law) pending.hidden pending.shown law.covered

pub is_covered_now : IsCoveredNow
is_covered_now c f s law = covered_more (IsListed f) f.anchor f.layer (HasCover f.line f.safe_line) (IsOpenFor f.line) (cover_is_open f.line f.safe_line) law.covered

pub keys_lead_apart : KeysLeadApart
keys_lead_apart c f s law j k n to_n to_n' = sym (law.led j n to_n).anchor ∙ (law.led k n to_n').anchor

-- Of the turn's steps one alone makes a node free.
pub freed_are_released : FreedAreReleased
freed_are_released c f f' s t n takes_lock is none = absurd (is none)
freed_are_released c f f' s t n (passes j other_state) is none = absurd (is none)
freed_are_released c f f' s t n (sees j ready) is none = absurd (is none)
freed_are_released c f f' s t n (sees_kind j) is none = absurd (is none)
freed_are_released c f f' s t n (sees_node j kind) is none = absurd (is none)
freed_are_released c f f' s t n (sees_anchor j kind node) is none = absurd (is none)
freed_are_released c f f' s t n walks is none = absurd (is none)
freed_are_released c f f' s t n (leaves_line e) is none = absurd (is none)
freed_are_released c f f' s t n (decides e m target free within) is none = absurd (is none)
freed_are_released c f f' s t n (changes e found layer safe same here_or durable) is none = absurd (is none)
freed_are_released c f f' s t n (has_changed_merge e found layer safe same here_is durable kind) is none = absurd (is none)
freed_are_released c f f' s t n (has_changed_split e found layer safe same here_is durable kind) is none = absurd (is none)
freed_are_released c f f' s t n (stamps e) is none = absurd (is none)
freed_are_released c f f' s t n (empties j) is none = absurd (is none)
freed_are_released c f f' s t n (sweeps j done) is none = absurd (is none)
freed_are_released c f f' s t n (passes_node m other_status) is none = absurd (is none)
freed_are_released c f f' s t n (sees_gone m gone) is none = absurd (is none)
freed_are_released c f f' s t n (passes_stamp m why) is none = absurd (is none)
freed_are_released c f f' s t n (sees_stamp m some_stamp at_most) is none = absurd (is none)
freed_are_released c f f' s t n (passes_worn m worn) is none = absurd (is none)
freed_are_released c f f' s t n (sees_unworn m unworn) is none = absurd (is none)
freed_are_released c f f' s t n (unstamps m) is none = absurd (is none)
freed_are_released c f f' s t n (starts_count m done) is none = absurd (is none)
freed_are_released c f f' s t n (counts_free m all free) is none = absurd (is none)
freed_are_released c f f' s t n (counts m all taken) is none = absurd (is none)
freed_are_released c f f' s t n (leaves_lock m all done) is none = absurd (is none)
freed_are_released c f f' s t n (frees m) is none = elim (cases_eq n m) [
  | inl same ↦ ap Frees (sym same)
  | inr ne ↦ absurd (is (sym (other f.status m n free_status ne) ∙ none))
]

pub stamp_was_released : StampWasReleased
stamp_was_released c f f' s n law (unstamps _) = (law.sure.0, here f.stamp n n 0 refl)

-- a fresh index
fresh_leads : (key node : ℕ) → fresh_facts.layer key ≡ Some node → (key ≡ 0) × (node ≡ 0)
fresh_leads key node leads = elim (key == 0) as (λ b. (key == 0) ≡ b → cond b (Some 0) None ≡ Some node → (key ≡ 0) × (node ≡ 0)) [
  | true ↦ λ e is. (eqb-true _ _ e, let same : 0 ≡ node = (let p : Some 0 ≡ Some node = is in cc) in sym same)
  | false ↦ λ e is. absurd (let p : None ≡ Some node = is in cc)
] refl leads

one_not : (a b x : ℕ) → x ≡ a → x ≡ b → a ≢ b → ⊥
one_not a b x e f ne = ne (sym e ∙ f)

fresh_none_gone : (n : ℕ) → fresh_facts.status n ≡ gone_status → ⊥
fresh_none_gone n = elim (n == 0) as (λ b. cond {A = ℕ} b 1 0 ≡ 2 → ⊥) [ true ↦ λ e. one_not 1 2 1 refl e (omega arith) | false ↦ λ e. one_not 0 2 0 refl e (omega arith) ]

pub fresh_is_lawful : FreshIsLawful
fresh_is_lawful c stamp = record {
  stamped_by = stamp;
  durable = λ k. refl;
  led = λ key node leads. let zeros = fresh_leads key node leads in record {
    anchor = sym zeros.0;
    status = λ none. one_not 1 0 (fresh_facts.status node) (ap (λ b. cond b 1 0) (eq-eqb node 0 zeros.1)) none (omega arith);
    stamp = refl;
    not_freed = tt;
  };
  covered = λ key node bare. (
    λ leads. let zeros = fresh_leads key node leads in (eq-eqb node 0 zeros.1, sym zeros.0),
    λ has. ap (λ b. cond b (Some 0) None) (eq-eqb key 0 (sym has.1)) ∙ ap Some (sym (eqb-true _ _ has.0)),
  );
  apart = λ n m listed listed' same. eqb-true _ _ listed ∙ sym (eqb-true _ _ listed');
  live = λ n listed. ap (λ b. cond b 1 0) listed;
  marked = λ n some_stamp. absurd (some_stamp refl);
  owned = λ n gone bare. absurd (fresh_none_gone n gone);
  ready = λ j is. absurd (one_not empty_state ready_state (no_lines.state j) refl is (omega arith));
  merges = λ j is kind. absurd (one_not empty_state ready_state (no_lines.state j) refl is (omega arith));
  sure = tt;
}
