-- Whether a party's last call isn't answered.
use Rattle.std.proofs.Common.{◌≡◌, ◌≢◌, ℕ, ◌||◌, inl, inr, ⊎_elim, true, false, refl, sym, ap, ◌∙◌}
use Rattle.std.specs.Prelude.{Option, Some, None, is_some}
use mathlib.Core.Option.{some, some-injective}
use lib.ListN.{get_elem?}
use Rattle.node_ops.specs.declared.running.Running.{Running}
use Rattle.updater.specs.declared.making.MakeTurn.{MakeTurn}
use Rattle.index_core.specs.declared.party.PartyState.{PartyState}
use Rattle.index_core.specs.declared.party.Rechecking.{Rechecking}
use Rattle.index_core.specs.PartyStates.{is_busy}
use Rattle.index_core.specs.Indexes.{Index, IsBusy}
use Rattle.index_core.specs.Lone.{HoldsLock, IsQuiet, IsStill}

pub busy_told : (s : Index) (i : ℕ) (e : PartyState) → get_elem? s.states i ≡ some e → is_busy e ≡ true → IsBusy s i
busy_told s i e there busy = by_calls e.machine e.turn e.recheck refl refl refl busy
  where
    by_calls : (m : Option Running) (t : Option MakeTurn) (r : Option Rechecking) → e.machine ≡ m → e.turn ≡ t → e.recheck ≡ r → ((is_some m || is_some t) || is_some r) ≡ true → IsBusy s i
    by_calls (Some m) t r flies turns checks is = inl (record { state = e; machine = m; there = there; flies = flies })
    by_calls None (Some t) r flies turns checks is = inr (inl (record { state = e; machine = t; there = there; flies = turns }))
    by_calls None None (Some r) flies turns checks is = inr (inr (record { state = e; machine = r; there = there; flies = checks }))
    by_calls None None None flies turns checks is = absurd (cc)

pub idle_told : (e : PartyState) → is_busy e ≡ false → (e.machine ≡ None) × (e.turn ≡ None) × (e.recheck ≡ None)
idle_told e idle = by_calls e.machine e.turn e.recheck idle
  where
    by_calls : (m : Option Running) (t : Option MakeTurn) (r : Option Rechecking) → ((is_some m || is_some t) || is_some r) ≡ false → (m ≡ None) × (t ≡ None) × (r ≡ None)
    by_calls (Some m) t r is = absurd (cc)
    by_calls None (Some t) r is = absurd (cc)
    by_calls None None (Some r) is = absurd (cc)
    by_calls None None None is = (refl, refl, refl)

pub quiet_is_idle : (s : Index) (i : ℕ) → IsQuiet s → IsBusy s i → ⊥
quiet_is_idle s i quiet (inl f) = let both : None ≡ Some f.machine = sym (quiet.calls i f.state f.there) ∙ f.flies in cc
quiet_is_idle s i quiet (inr (inl f)) = let both : None ≡ Some f.machine = sym (quiet.turns i f.state f.there) ∙ f.flies in cc
quiet_is_idle s i quiet (inr (inr f)) = let both : None ≡ Some f.machine = sym (quiet.rechecks i f.state f.there) ∙ f.flies in cc

-- a still index has nothing in flight of this party
pub still_is_idle : (s : Index) (i : ℕ) → IsStill i s → IsBusy s i → ⊥
still_is_idle s i still (inl f) = let both : None ≡ Some f.machine = sym (still.calls i f.state f.there) ∙ f.flies in cc
still_is_idle s i still (inr (inr f)) = let both : None ≡ Some f.machine = sym (still.rechecks i f.state f.there) ∙ f.flies in cc
still_is_idle s i still (inr (inl f)) = ⊎_elim
    (λ (none : f.state.turn ≡ None). let both : None ≡ Some f.machine = sym none ∙ f.flies in absurd (cc))
    (λ (stopped : (i ≢ i) × HoldsLock f.state.turn). absurd (stopped.0 refl))
    (still.turns i f.state f.there)

pub busy_tells : (s : Index) (i : ℕ) (e : PartyState) → get_elem? s.states i ≡ some e → IsBusy s i → is_busy e ≡ true
busy_tells s i e there (inl f) =
    ap (λ (m : Option Running). (is_some m || is_some e.turn) || is_some e.recheck) (ap (λ (d : PartyState). d.machine) (some-injective _ _ (sym there ∙ f.there)) ∙ f.flies)
busy_tells s i e there (inr (inl f)) = by_calls e.machine (ap (λ (d : PartyState). d.turn) (some-injective _ _ (sym there ∙ f.there)) ∙ f.flies)
  where
    by_calls : (m : Option Running) → (e.turn ≡ Some f.machine) → ((is_some m || is_some e.turn) || is_some e.recheck) ≡ true
    by_calls (Some m) is = refl
    by_calls None is = ap (λ (t : Option MakeTurn). is_some t || is_some e.recheck) is
busy_tells s i e there (inr (inr f)) = by_calls e.machine e.turn (ap (λ (d : PartyState). d.recheck) (some-injective _ _ (sym there ∙ f.there)) ∙ f.flies)
  where
    by_calls : (m : Option Running) (t : Option MakeTurn) → (e.recheck ≡ Some f.machine) → ((is_some m || is_some t) || is_some e.recheck) ≡ true
    by_calls (Some m) t is = refl
    by_calls None (Some t) is = refl
    by_calls None None is = ap is_some is
