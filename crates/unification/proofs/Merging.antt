-- One merge of two classes keeps exactly the solutions: `JoinOk` at the two classes, both ways, and nothing changes at the others.
use mathlib.Core.Path.{◌≡◌, sym, ◌∙◌}
use mathlib.Core.Logic.{◌↔◌, ◌≢◌}
use mathlib.Core.List.{List}
use Prim.Native.Nat.{ℕ}
use native.Mathlib.Decide.{ℕ_discrete}
use Rattle.rules.specs.Types.{Ty}
use Rattle.unification.specs.Problem.{Eqn, Matches, Holds}
use Rattle.unification.specs.Classes.{Graph, Sat, Idem}
use Rattle.unification.specs.Model.{clash, joined, join}
use Rattle.unification.proofs.Join.{top, JoinOk, join_ok}

-- h is g with the class p put into the class q, whose shape is then the top of the two; p's own shape may be anything
pub record Merged (g h : Graph) (p q : ℕ) : Type 0 where
  pub hit : (v : ℕ) → g.cls v ≡ p → h.cls v ≡ q
  pub miss : (v : ℕ) → g.cls v ≢ p → h.cls v ≡ g.cls v
  pub topped : h.sh q ≡ top (g.sh p) (g.sh q)
  pub rest : (v : ℕ) → v ≢ p → v ≢ q → h.sh v ≡ g.sh v

pub fits_at : {θ : ℕ → Ty} {g : Graph} → Idem g → Sat θ g → (v : ℕ) → Matches θ (g.sh (g.cls v)) (θ v)
fits_at {θ} {g} i s v = rw (s.same v) (s.fits (g.cls v) (i v))

module _ (g h : Graph) (p q : ℕ) (p≢q : p ≢ q) (pp : g.cls p ≡ p) (qq : g.cls q ≡ q) (m : Merged g h p q) where
  pub idem_merge : Idem g → Idem h
  idem_merge i v = go (ℕ_discrete (g.cls v) p)
    where
      q_stays : h.cls q ≡ q
      q_stays = m.miss q (λ e. p≢q (sym e ∙ qq)) ∙ qq

      go : Dec (g.cls v ≡ p) → h.cls (h.cls v) ≡ h.cls v
      go (yes e) = rw (m.hit v e) q_stays
      go (no e) = rw (m.miss v e) (m.miss (g.cls v) (λ f. e (sym (i v) ∙ f)) ∙ i v)

  -- a representative of h is one of g, and not p
  pub rep_old : (v : ℕ) → h.cls v ≡ v → v ≢ p × (g.cls v ≡ v)
  rep_old v e = go (ℕ_discrete (g.cls v) p)
    where
      ne : v ≢ p
      ne f = p≢q (let x : h.cls p ≡ q = m.hit p pp in cc)

      go : Dec (g.cls v ≡ p) → v ≢ p × (g.cls v ≡ v)
      go (yes y) = (ne, let x : h.cls v ≡ q = m.hit v y in cc)
      go (no n) = (ne, sym (m.miss v n) ∙ e)

module _ (θ : ℕ → Ty) (g h : Graph) (p q : ℕ) (p≢q : p ≢ q) (pp : g.cls p ≡ p) (qq : g.cls q ≡ q) (m : Merged g h p q) where
  merge_to : (es : List Eqn) → JoinOk θ (g.sh p) (g.sh q) (θ q) (joined es) → Sat θ g → θ p ≡ θ q → Sat θ h × Holds θ es
  merge_to es j s e = (record { same = same'; fits = fits' }, both.1)
    where
      both : Matches θ (top (g.sh p) (g.sh q)) (θ q) × Holds θ es
      both = j.0 (rw e at (s.fits p pp), s.fits q qq)

      same_go : (v : ℕ) → Dec (g.cls v ≡ p) → θ v ≡ θ (h.cls v)
      same_go v (yes y) = cc (s.same v, m.hit v y)
      same_go v (no n) = cc (s.same v, m.miss v n)

      same' : (v : ℕ) → θ v ≡ θ (h.cls v)
      same' v = same_go v (ℕ_discrete (g.cls v) p)

      fits_go : (v : ℕ) → h.cls v ≡ v → Dec (v ≡ q) → Matches θ (h.sh v) (θ v)
      fits_go v r (yes y) = rw (y, m.topped) both.0
      fits_go v r (no n) = rw (m.rest v (rep_old g h p q p≢q pp qq m v r).0 n) (s.fits v (rep_old g h p q p≢q pp qq m v r).1)

      fits' : (v : ℕ) → h.cls v ≡ v → Matches θ (h.sh v) (θ v)
      fits' v r = fits_go v r (ℕ_discrete v q)

  merge_from : (es : List Eqn) → JoinOk θ (g.sh p) (g.sh q) (θ q) (joined es) → Sat θ h → Holds θ es → Sat θ g × (θ p ≡ θ q)
  merge_from es j s hs = (record { same = λ v. same_go v (ℕ_discrete (g.cls v) p); fits = λ v r. fits_go v r (ℕ_discrete v p) (ℕ_discrete v q) }, e)
    where
      hq : h.cls q ≡ q
      hq = m.miss q (λ f. p≢q (sym f ∙ qq)) ∙ qq

      e : θ p ≡ θ q
      e = cc (s.same p, m.hit p pp)

      both : Matches θ (g.sh p) (θ q) × Matches θ (g.sh q) (θ q)
      both = j.1 (rw m.topped at (s.fits q hq), hs)

      same_go : (v : ℕ) → Dec (g.cls v ≡ p) → θ v ≡ θ (g.cls v)
      same_go v (yes y) = cc (s.same v, m.hit v y, e)
      same_go v (no n) = cc (s.same v, m.miss v n)

      fits_go : (v : ℕ) → g.cls v ≡ v → Dec (v ≡ p) → Dec (v ≡ q) → Matches θ (g.sh v) (θ v)
      fits_go v r (yes y) d = rw (y, e) both.0
      fits_go v r (no n) (yes y) = rw y both.1
      fits_go v r (no n) (no o) = rw (m.rest v n o) at (s.fits v (m.miss v (λ f. n (sym r ∙ f)) ∙ r))

-- the step: the equation a = b, in a graph where their classes differ
abbrev pub StepOk : (θ : ℕ → Ty) (g h : Graph) (a b : ℕ) → List Eqn → Type 0
StepOk θ g h a b es = (Sat θ g × (θ a ≡ θ b)) ↔ (Sat θ h × Holds θ es)

classes_join : (θ : ℕ → Ty) (g : Graph) (a b : ℕ) → JoinOk θ (g.sh (g.cls a)) (g.sh (g.cls b)) (θ (g.cls b)) (join (g.sh (g.cls a)) (g.sh (g.cls b)))
classes_join θ g a b = join_ok θ (g.sh (g.cls a)) (g.sh (g.cls b)) (θ (g.cls b))

pub step_ok : (θ : ℕ → Ty) (g h : Graph) (a b : ℕ) (es : List Eqn) → Idem g → g.cls a ≢ g.cls b →
    join (g.sh (g.cls a)) (g.sh (g.cls b)) ≡ joined es → Merged g h (g.cls a) (g.cls b) → StepOk θ g h a b es
step_ok θ g h a b es i ne je m =
    let j : JoinOk θ (g.sh (g.cls a)) (g.sh (g.cls b)) (θ (g.cls b)) (joined es) = rw je at (classes_join θ g a b) in (
      (λ x. merge_to θ g h (g.cls a) (g.cls b) ne (i a) (i b) m es j x.0 (cc (x.0.same a, x.0.same b))),
      (λ x. let r = merge_from θ g h (g.cls a) (g.cls b) ne (i a) (i b) m es j x.0 x.1 in (r.0, cc (r.0.same a, r.0.same b))),
    )

pub step_clash : (θ : ℕ → Ty) (g : Graph) (a b : ℕ) → Idem g → join (g.sh (g.cls a)) (g.sh (g.cls b)) ≡ clash →
    Sat θ g → θ a ≡ θ b → ⊥
step_clash θ g a b i je s e =
    let j : JoinOk θ (g.sh (g.cls a)) (g.sh (g.cls b)) (θ (g.cls b)) clash = rw je at (classes_join θ g a b) in
    let f : θ (g.cls a) ≡ θ (g.cls b) = cc (s.same a, s.same b) in
    j (rw f at (s.fits (g.cls a) (i a))) (s.fits (g.cls b) (i b))

-- an equation whose sides are in one class says nothing new
pub step_same : (θ : ℕ → Ty) (g : Graph) (a b : ℕ) → g.cls a ≡ g.cls b → Sat θ g → θ a ≡ θ b
step_same θ g a b e s = cc (s.same a, s.same b)
