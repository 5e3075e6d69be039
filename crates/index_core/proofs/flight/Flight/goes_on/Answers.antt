use Rattle.std.proofs.Common.{◌≡◌, Bool, true, false, refl, sym, ap, ◌∙◌, subst}
use Rattle.std.specs.Prelude.{Option, IfSome, IsSomeAnd}
use Rattle.node_ops.specs.declared.running.Running.{Running}
use Rattle.index_core.specs.declared.flight.Flight.TheInside.{Inside}
use Rattle.index_core.specs.declared.flight.Kind.{Kind}
use Rattle.index_core.specs.declared.flight.Kind.TheVariants as kind
use Rattle.index_core.specs.Bursts.{BurstsInPlace, MayBurst}
use Rattle.index_core.specs.InFlight.{flight_of, kept_machine, machine_of_kind}
use Rattle.index_core.proofs.flight.Flight.goes_on.Goals as goal

-- what a machine of the kind in flight comes to, the flight comes to
module _ (Q : Running → Running → Type 0) where
  kept : (flies : Bool) (was now : Option Running) → IfSome was (λ machine. IsSomeAnd now (Q machine))
      → IfSome (kept_machine flies was) (λ machine. IsSomeAnd (kept_machine flies now) (Q machine))
  kept true was now comes = comes
  kept false was now comes = tt

  goes : (old new : Inside) (flight : Option Running) (k : Kind) → flight_of old ≡ flight → old.kind ≡ k
      → new.kind ≡ old.kind → new.flies ≡ old.flies
      → IfSome (machine_of_kind old k) (λ machine. IsSomeAnd (machine_of_kind new k) (Q machine))
      → IfSome flight (λ machine. IsSomeAnd (flight_of new) (Q machine))
  goes old new flight k view is kinds flies comes =
      let was : flight_of old ≡ kept_machine old.flies (machine_of_kind old k) =
      ap (λ (l : Kind). kept_machine old.flies (machine_of_kind old l)) is in
      let now : flight_of new ≡ kept_machine old.flies (machine_of_kind new k) =
      (λ j. kept_machine (flies j) (machine_of_kind new ((kinds ∙ is) j))) in
      subst (λ (q : Option Running × Option Running). IfSome q.0 (λ machine. IsSomeAnd q.1 (Q machine)))
      (λ j. ((sym was ∙ view) j, sym now j)) (kept old.flies (machine_of_kind old k) (machine_of_kind new k) comes)

-- and what holds of the machine in flight holds of that of its kind
module _ (P : Running → Type 0) where
  of_kept : (flies : Bool) (room : Option Running) → IsSomeAnd (kept_machine flies room) P → IsSomeAnd room P
  of_kept true room holds = holds
  of_kept false room none = absurd none

  of_kind : (inside : Inside) (flight : Option Running) (k : Kind) → flight_of inside ≡ flight → inside.kind ≡ k
      → IsSomeAnd flight P → IsSomeAnd (machine_of_kind inside k) P
  of_kind inside flight k view is holds =
      of_kept inside.flies (machine_of_kind inside k)
      (subst (λ (o : Option Running). IsSomeAnd o P)
      (sym view ∙ ap (λ (l : Kind). kept_machine inside.flies (machine_of_kind inside l)) is) holds)

pub burst_in-requires : goal.burst_in-requires
burst_in-requires g c =
    of_kind (MayBurst c.args.memory.now) c.self.inside c.args.self.now kind.Get c.self.view_is c.in-Get.is c.requires

pub burst_in-requires-in-Put : goal.burst_in-requires-in-Put
burst_in-requires-in-Put g c =
    of_kind (MayBurst c.args.memory.now) c.self.inside c.args.self.now kind.Put c.self.view_is c.in-Put.is c.requires

pub burst_in-requires-in-Del : goal.burst_in-requires-in-Del
burst_in-requires-in-Del g c =
    of_kind (MayBurst c.args.memory.now) c.self.inside c.args.self.now kind.Del c.self.view_is c.in-Del.is c.requires

pub burst_in-requires-in-Part : goal.burst_in-requires-in-Part
burst_in-requires-in-Part g c =
    of_kind (MayBurst c.args.memory.now) c.self.inside c.args.self.now kind.Part c.self.view_is c.in-Part.is c.requires

pub returns-in-Get : goal.returns-in-Get
returns-in-Get g c =
    let end = c.burst_in in
    goes
    (λ was now. BurstsInPlace c.args.memory.now end.new.memory was now end.result c.args.steps.now end.new.steps)
    c.self.inside (record (c.self.inside) { get = end.new.room })
    c.args.self.now kind.Get c.self.view_is c.in-Get.is refl refl
    end.ensures

pub returns-in-Put : goal.returns-in-Put
returns-in-Put g c =
    let end = c.burst_in-in-Put in
    goes
    (λ was now. BurstsInPlace c.args.memory.now end.new.memory was now end.result c.args.steps.now end.new.steps)
    c.self.inside (record (c.self.inside) { put = end.new.room })
    c.args.self.now kind.Put c.self.view_is c.in-Put.is refl refl
    end.ensures

pub returns-in-Del : goal.returns-in-Del
returns-in-Del g c =
    let end = c.burst_in-in-Del in
    goes
    (λ was now. BurstsInPlace c.args.memory.now end.new.memory was now end.result c.args.steps.now end.new.steps)
    c.self.inside (record (c.self.inside) { del = end.new.room })
    c.args.self.now kind.Del c.self.view_is c.in-Del.is refl refl
    end.ensures

pub returns-in-Part : goal.returns-in-Part
returns-in-Part g c =
    let end = c.burst_in-in-Part in
    goes
    (λ was now. BurstsInPlace c.args.memory.now end.new.memory was now end.result c.args.steps.now end.new.steps)
    c.self.inside (record (c.self.inside) { part = end.new.room })
    c.args.self.now kind.Part c.self.view_is c.in-Part.is refl refl
    end.ensures
