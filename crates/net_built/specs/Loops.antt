-- Bodies in which no binding of values leads back to itself.
use Rattle.std.specs.Prelude.{◌≡◌, ℕ, zero, suc, ◌-◌, Bool, true, ◌&&◌, nat_lt}
use Rattle.chw_terms.specs.Occurs.{occurs}
use Rattle.chw_terms.specs.TermTree.{TermTree, global, lam, letrec, case_of}
use Rattle.chw_terms.specs.TermTree.{Group, no_bindings, bind, Alts, no_alts, alt, size_of}
use Rattle.graph_order.specs.References.{HasNoCycle}

-- the right side of the binding of this number; past the last one a closed term
abbrev pub side_at : Group → ℕ → TermTree
side_at no_bindings i = global 0
side_at (bind t e g) zero = e
side_at (bind t e g) (suc i) = side_at g i

-- the variable of the second binding occurs in the right side of the first
abbrev pub refers : Group → (from to : ℕ) → Bool
refers g from to = nat_lt to (size_of g) && occurs (side_at g from) (size_of g - 1 - to)

abbrev mutual
  -- in no letrec bindings lead back to themselves; what isn't below lambdas, right sides and
  -- alternatives isn't asked about
  pub HasNoLoops : TermTree → Type 0
  HasNoLoops (lam t e) = HasNoLoops e
  HasNoLoops (letrec g e) = HasNoCycle (λ i j. refers g i j ≡ true) × HaveNoLoops g
  HasNoLoops (case_of e alts) = HasNoLoopsIn alts
  HasNoLoops _ = Unit {0}

  pub HaveNoLoops : Group → Type 0
  HaveNoLoops no_bindings = Unit {0}
  HaveNoLoops (bind t e g) = HasNoLoops e × HaveNoLoops g

  pub HasNoLoopsIn : Alts → Type 0
  HasNoLoopsIn no_alts = Unit {0}
  HasNoLoopsIn (alt q e more) = HasNoLoops e × HasNoLoopsIn more
