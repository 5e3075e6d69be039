-- A put or delete on a list of members, read by its one target.
use Rattle.std.proofs.Common.{◌≡◌, ℕ, ◌+◌, ◌/◌, Bool, true, false, ltb, leb, eqb, MatchBool, List, [], ◌∷◌, ◌++◌, length, refl, sym, ap, subst, ◌∙◌, lt-ltb, le-ltb, le-leb, leb-true, leb-false, eq-eqb, ne_eqb, if◌then◌else◌}
use Rattle.std.proofs.lemmas.Bool.{lt-leb}
use Rattle.std.specs.List.{AllByRecursion}
use Rattle.shapes.specs.Anchors.{below}
use Rattle.shapes.specs.Members.{Member, is_among, with_name, without_name, named, IsTargetMember, lower, upper, Outcome, Full, Placed, Puts, is_there, joins, finds_no_node, splits, Deletes, is_absent, goes_last, goes, merges}
use Rattle.shapes.proofs.Orders.{clash}

-- A list of members in three parts.
pub record Parts : Type 0 where
  pub before : List Member
  pub target : Member
  pub after : List Member

abbrev pub parts : List Member → Member → List Member → Parts
parts b t a = record { before = b; target = t; after = a }

abbrev head_or : Member → List Member → Member
head_or d [] = d
head_or d (x ∷ xs) = x

abbrev tail_of : List Member → List Member
tail_of [] = []
tail_of (x ∷ xs) = xs

-- a member of a list that is above the name isn't one that is at most the name
not_above : (name : List ℕ) (b : List Member) (t : Member) (a xs : List Member) → AllByRecursion (λ member. below name member.anchor ≡ true) xs → xs ≡ b ++ t ∷ a →
    below name t.anchor ≡ false → ⊥
not_above name [] t a [] all is at_most = cc
not_above name [] t a (x ∷ xs) all is at_most = clash all.0 (ap (λ ys. below name (head_or t ys).anchor) is ∙ at_most)
not_above name (c ∷ b) t a [] all is at_most = cc
not_above name (c ∷ b) t a (x ∷ xs) all is at_most = not_above name b t a xs all.1 (ap tail_of is) at_most

-- a shape has one target of a name
one-target : (name : List ℕ) (b : List Member) (t : Member) (a b' : List Member) (t' : Member) (a' : List Member) → b ++ t ∷ a ≡ b' ++ t' ∷ a' →
    below name t.anchor ≡ false → below name t'.anchor ≡ false → AllByRecursion (λ member. below name member.anchor ≡ true) a →
    AllByRecursion (λ member. below name member.anchor ≡ true) a' → parts b t a ≡ parts b' t' a'
one-target name [] t a [] t' a' is at_most at_most' last last' = λ i. parts [] (head_or t (is i)) (tail_of (is i))
one-target name [] t a (c ∷ b') t' a' is at_most at_most' last last' = absurd (not_above name b' t' a' a last (ap tail_of is) at_most')
one-target name (c ∷ b) t a [] t' a' is at_most at_most' last last' = absurd (not_above name b t a a' last' (sym (ap tail_of is)) at_most)
one-target name (c ∷ b) t a (c' ∷ b') t' a' is at_most at_most' last last' =
    ap (λ (q : Member × Parts). parts (q.0 ∷ q.1.before) q.1.target q.1.after)
    (λ i. (head_or c (is i), one-target name b t a b' t' a' (ap tail_of is) at_most at_most' last last' i))

pub one_target : (name : List ℕ) (shape b : List Member) (t : Member) (a b' : List Member) (t' : Member) (a' : List Member) →
    IsTargetMember name shape b t a → IsTargetMember name shape b' t' a' → parts b t a ≡ parts b' t' a'
one_target name shape b t a b' t' a' is is' =
    one-target name b t a b' t' a' (sym is.place ∙ is'.place) is.at_most is'.at_most is.last is'.last

-- What a put comes to, its target being this.
abbrev pub ComesTo : ℕ → ℕ → List ℕ → List Member → Parts → Outcome → Type 0
ComesTo slots nodes name shape p outcome =
    MatchBool (is_among name p.target.names) (outcome ≡ Placed shape)
    (MatchBool (ltb (length p.target.names) slots) (outcome ≡ Placed (p.before ++ named p.target (with_name name p.target.names) ∷ p.after))
    (MatchBool (eqb (length shape) nodes) (outcome ≡ Full)
    (Puts slots nodes name (p.before ++ lower slots p.target ∷ upper slots p.target ∷ p.after) outcome)))

at_true : (P Q : Type 0) {b : Bool} → b ≡ true → P → MatchBool b P Q
at_true P Q is p = subst (λ b. MatchBool b P Q) (sym is) p

at_false : (P Q : Type 0) {b : Bool} → b ≡ false → Q → MatchBool b P Q
at_false P Q is q = subst (λ b. MatchBool b P Q) (sym is) q

module _ (slots nodes : ℕ) (name : List ℕ) where
  pub put_comes : (shape b : List Member) (t : Member) (a : List Member) (outcome : Outcome) → IsTargetMember name shape b t a → Puts slots nodes name shape outcome →
      ComesTo slots nodes name shape (parts b t a) outcome
  put_comes shape b t a outcome here (is_there {before = b'} {after = a'} {target = t'} there among) =
      subst (λ p. ComesTo slots nodes name shape p (Placed shape)) (one_target name shape b' t' a' b t a there here) (at_true _ _ among refl)
  put_comes shape b t a outcome here (joins {before = b'} {after = a'} {target = t'} there among few) =
      subst (λ p. ComesTo slots nodes name shape p (Placed (b' ++ named t' (with_name name t'.names) ∷ a'))) (one_target name shape b' t' a' b t a there here)
      (at_false _ _ among (at_true _ _ (lt-ltb (length t'.names) slots few) refl))
  put_comes shape b t a outcome here (finds_no_node {before = b'} {after = a'} {target = t'} there among many all) =
      subst (λ p. ComesTo slots nodes name shape p Full) (one_target name shape b' t' a' b t a there here)
      (at_false _ _ among (at_false _ _ (le-ltb (length t'.names) slots many) (at_true _ _ (eq-eqb (length shape) nodes all) refl)))
  put_comes shape b t a outcome here (splits {before = b'} {after = a'} {target = t'} there among many more put) =
      subst (λ p. ComesTo slots nodes name shape p outcome) (one_target name shape b' t' a' b t a there here)
      (at_false _ _ among (at_false _ _ (le-ltb (length t'.names) slots many) (at_false _ _ (ne_eqb (length shape) nodes more) put)))

-- What a delete comes to, its target being this.
abbrev pub next_comes : ℕ → List ℕ → Parts → List Member → List Member
next_comes slots name p [] = p.before ++ named p.target (without_name name p.target.names) ∷ []
next_comes slots name p (right ∷ rest) =
    if leb (length (without_name name p.target.names) + length right.names) (slots / 2) then p.before ++ named p.target (without_name name p.target.names ++ right.names) ∷ rest
    else p.before ++ named p.target (without_name name p.target.names) ∷ right ∷ rest

abbrev pub deleted : ℕ → List ℕ → List Member → Parts → List Member
deleted slots name shape p = if is_among name p.target.names then next_comes slots name p p.after else shape

module _ (slots : ℕ) (name : List ℕ) where
  pub del_comes : (shape b : List Member) (t : Member) (a after : List Member) → IsTargetMember name shape b t a → Deletes slots name shape after →
      after ≡ deleted slots name shape (parts b t a)
  del_comes shape b t a after here (is_absent {before = b'} {after = a'} {target = t'} there among) =
      subst (λ p. shape ≡ deleted slots name shape p) (one_target name shape b' t' a' b t a there here)
      (sym (ap (λ c. if c then next_comes slots name (parts b' t' a') a' else shape) among))
  del_comes shape b t a after here (goes_last {before = b'} {target = t'} there among) =
      subst (λ p. b' ++ named t' (without_name name t'.names) ∷ [] ≡ deleted slots name shape p) (one_target name shape b' t' [] b t a there here)
      (sym (ap (λ c. if c then next_comes slots name (parts b' t' []) [] else shape) among))
  del_comes shape b t a after here (goes {before = b'} {after = a'} {target = t'} {right = r} there among many) =
      subst (λ p. b' ++ named t' (without_name name t'.names) ∷ r ∷ a' ≡ deleted slots name shape p) (one_target name shape b' t' (r ∷ a') b t a there here)
      (sym (ap (λ c. if c then next_comes slots name (parts b' t' (r ∷ a')) (r ∷ a') else shape) among
      ∙ ap (λ c. if c then b' ++ named t' (without_name name t'.names ++ r.names) ∷ a' else b' ++ named t' (without_name name t'.names) ∷ r ∷ a')
      (lt-leb (length (without_name name t'.names) + length r.names) (slots / 2) many)))
  del_comes shape b t a after here (merges {before = b'} {after = a'} {target = t'} {right = r} there among few) =
      subst (λ p. b' ++ named t' (without_name name t'.names ++ r.names) ∷ a' ≡ deleted slots name shape p) (one_target name shape b' t' (r ∷ a') b t a there here)
      (sym (ap (λ c. if c then next_comes slots name (parts b' t' (r ∷ a')) (r ∷ a') else shape) among
      ∙ ap (λ c. if c then b' ++ named t' (without_name name t'.names ++ r.names) ∷ a' else b' ++ named t' (without_name name t'.names) ∷ r ∷ a')
      (le-leb (length (without_name name t'.names) + length r.names) (slots / 2) few)))

  -- and it comes to that
  pub del_there : (shape b : List Member) (t : Member) (a : List Member) → IsTargetMember name shape b t a → Deletes slots name shape (deleted slots name shape (parts b t a))
  del_there shape b t a here =
      elim (is_among name t.names) as (λ c. is_among name t.names ≡ c → Deletes slots name shape (if c then next_comes slots name (parts b t a) a else shape)) [
        | true ↦ λ among. by-next a here among
        | false ↦ λ among. is_absent here among
      ] refl
    where
      by-next : (a : List Member) → IsTargetMember name shape b t a → is_among name t.names ≡ true → Deletes slots name shape (next_comes slots name (parts b t a) a)
      by-next [] here among = goes_last here among
      by-next (r ∷ rest) here among =
          let both : ℕ = length (without_name name t.names) + length r.names in
          elim (leb both (slots / 2)) as (λ c. leb both (slots / 2) ≡ c → Deletes slots name shape (if c then b ++ named t (without_name name t.names ++ r.names) ∷ rest else b ++ named t (without_name name t.names) ∷ r ∷ rest)) [
            | true ↦ λ is. merges here among (leb-true both (slots / 2) is)
            | false ↦ λ is. goes here among (leb-false both (slots / 2) is)
          ] refl
