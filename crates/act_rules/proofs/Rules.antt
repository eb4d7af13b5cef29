-- What the rule on functions on signals makes of a term acts as the term, by the seven forms.
use Rattle.std.proofs.Common.{ℕ, List}
use Rattle.chw_types.specs.declared.kind.Kind.{Kind}
use Rattle.chw_types.specs.TypeTree.{TypeTree, fun}
use Rattle.chw_terms.specs.declared.program.Program.{Program}
use Rattle.chw_terms.specs.TermTree.{TermTree}
use Rattle.chw_typing.specs.Scopes.{AreTermTypes}
use Rattle.chw_typing.specs.Programs.{AreClosed, IsSound, IsTyped, setting_of}
use Rattle.chw_typing.specs.Typing.{HasType}
use Rattle.rewriting.specs.Spots.{Spot}
use Rattle.rewriting.specs.Lifted.{Joins}
use Rattle.rewriting.specs.Lifted.{ap_pure as at_ap_pure, fmap_pure as at_fmap_pure, fmap_fmap as at_fmap_fmap, fmap_ap as at_fmap_ap, ap_value as at_ap_value, ap_fmap as at_ap_fmap, ap_ap as at_ap_ap}
use Rattle.acts.specs.Terms.{ActsUnder, OriginsTyped, setting_with}
use Rattle.rewriting.specs.Origins.{Origins, with_origins}
use Rattle.act_rules.proofs.Joined.{ap_pure, fmap_pure, fmap_fmap, fmap_ap, ap_value, ap_fmap, ap_ap}

module _ (p : Program) (sound : IsSound (setting_of p)) (typed : IsTyped p) (types : List TypeTree) (o : ℕ → TermTree) (are_closed : AreClosed (setting_of p) types) (have : OriginsTyped p types o) where
  pub joined : {os : Origins} {at : Spot} {e e' : TermTree} → Joins os at e e' → {kinds : List Kind} {vars : List TypeTree} → AreTermTypes (setting_with p types) kinds vars → (t : TypeTree) → HasType (setting_with p types) kinds vars e t → ActsUnder p kinds vars (with_origins o e') (with_origins o e) t
  joined (at_ap_pure {d = d} {a = a} {b = b} {d' = d'} {a' = a'} {f = f} {s = s}) g t whole = ap_pure p sound typed types o are_closed have g d a b d' a' f s t whole
  joined (at_fmap_pure {d = d} {a = a} {b = b} {d' = d'} {a' = a'} {f = f} {v = v}) g t whole = fmap_pure p sound typed types o are_closed have g d a b d' a' f v t whole
  joined (at_fmap_fmap {d = d} {a = a} {b = b} {c = c} {d' = d'} {b' = b'} {t = tx} {f = f} {g = k} {s = s} fused found) g t whole = fmap_fmap p sound typed types o are_closed have g d a b c d' b' tx f k s t whole
  joined (at_fmap_ap {d = d} {a = a} {b = b} {c = c} {d' = d'} {b' = b'} {tx = tx} {r = r} {f = f} {u = u} {v = v} fused found) g t whole = fmap_ap p sound typed types o are_closed have g d a b c d' b' (fun tx r) tx f u v t whole
  joined (at_ap_value {d = d} {a = a} {b = b} {d' = d'} {a' = a'} {th = th} {u = u} {v = v} bare fused found) g t whole = ap_value p sound typed types o are_closed have g d a b d' a' th u v t whole
  joined (at_ap_fmap {d = d} {a = a} {b = b} {c = c} {d' = d'} {b' = b'} {th = th} {tx = tx} {u = u} {g = k} {w = w} bare fused found of) g t whole = ap_fmap p sound typed types o are_closed have g d a b c d' b' th tx u k w t whole
  joined (at_ap_ap {d = d} {a = a} {b = b} {c = c} {d' = d'} {b' = b'} {th = th} {tx = tx} {r = r} {u = u} {v = v} {w = w} bare fused found of) g t whole = ap_ap p sound typed types o are_closed have g d a b c d' b' th (fun tx r) tx u v w t whole
