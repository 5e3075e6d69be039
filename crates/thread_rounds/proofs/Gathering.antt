-- The work of all callers, taken one by one.
use Rattle.std.proofs.Common.{◌≡◌, List, [], ◌∷◌, ◌++◌, map, reverse, refl, sym, ap, ◌∙◌}
use Rattle.std.specs.Prelude.{Ok, Result, flat_map}
use Rattle.std.proofs.lemmas.List.{append_assoc, append-nil, map-append, reverse-append}
use Rattle.std.proofs.lemmas.Grind.{flat_map-append}
use Rattle.cat_history.specs.declared.record.Record.{Record}
use Rattle.pac_index.specs.declared.caller.Caller.{Caller}
use Rattle.thread_rounds.specs.declared.worker.Played.{Played}
use Rattle.thread_rounds.specs.Gathered.{IsGathered}

reverse-twice : {X : Type 0} (xs : List X) → reverse (reverse xs) ≡ xs
reverse-twice [] = refl
reverse-twice (x ∷ xs) = ap reverse (reverse-append (x ∷ []) xs) ∙ reverse-append (reverse xs) (x ∷ []) ∙ ap (λ l. x ∷ l) (reverse-twice xs)

-- So many were taken, and the rest is left, the last one first.
pub record Takes {E : Type 0} (played left : List (Result Played E)) (callers : List Caller) (records : List Record) : Type 0 where
  pub done : List Played
  pub all : played ≡ map (λ (p : Played). Ok p) done ++ reverse left
  pub callers_are : callers ≡ map (λ (p : Played). p.caller) done
  pub records_are : records ≡ flat_map (λ (p : Played). p.records.items) done

module _ {E : Type 0} (played : List (Result Played E)) where
  pub begins-taking : (left : List (Result Played E)) → left ≡ reverse played → Takes played left [] []
  begins-taking left is = record { done = []; all = sym (ap reverse is ∙ reverse-twice played); callers_are = refl; records_are = refl }

  pub takes-one : (left rest : List (Result Played E)) (p : Played) (callers : List Caller) (records : List Record) → Takes played left callers records → left ≡ rest ++ Ok p ∷ []
      → Takes played rest (callers ++ p.caller ∷ []) (records ++ p.records.items)
  takes-one left rest p callers records takes is = record {
    done = takes.done ++ p ∷ [];
    all = takes.all ∙ ap (λ (l : List (Result Played E)). map (λ (q : Played). Ok q) takes.done ++ reverse l) is ∙ moved;
    callers_are = ap (λ (l : List Caller). l ++ p.caller ∷ []) takes.callers_are ∙ sym (map-append (λ (q : Played). q.caller) takes.done (p ∷ []));
    records_are = ap (λ (l : List Record). l ++ p.records.items) takes.records_are ∙ ap (λ (l : List Record). flat_map (λ (q : Played). q.records.items) takes.done ++ l) (sym (append-nil p.records.items))
        ∙ sym (flat_map-append (λ (q : Played). q.records.items) takes.done (p ∷ []));
  }
    where
      moved : map (λ (q : Played). Ok q) takes.done ++ reverse (rest ++ Ok p ∷ []) ≡ map (λ (q : Played). Ok q) (takes.done ++ p ∷ []) ++ reverse rest
      moved =
          ap (λ (l : List (Result Played E)). map (λ (q : Played). Ok q) takes.done ++ l) (reverse-append rest (Ok p ∷ []))
          ∙ sym (append_assoc (map (λ (q : Played). Ok q) takes.done) (Ok p ∷ []) (reverse rest))
          ∙ ap (λ (l : List (Result Played E)). l ++ reverse rest) (sym (map-append (λ (q : Played). Ok q) takes.done (p ∷ [])))

  pub all-taken : (left : List (Result Played E)) (callers : List Caller) (records : List Record) → Takes played left callers records → left ≡ [] → IsGathered played callers records
  all-taken left callers records takes none = record {
    done = takes.done;
    all = takes.all ∙ ap (λ (l : List (Result Played E)). map (λ (q : Played). Ok q) takes.done ++ reverse l) none ∙ append-nil (map (λ (q : Played). Ok q) takes.done);
    callers_are = takes.callers_are;
    records_are = takes.records_are;
  }
