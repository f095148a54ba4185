use Rattle.std.proofs.Common.{◌≡◌, ◌∙◌, ℕ, List, Some, None, subst, sym, ap, false, true}
use Rattle.std.specs.Prelude.{Vec}
use Rattle.std.specs.Global.{Global}
use Rattle.a68_equiv.specs.Classes.{Classified, AreKept}
use Rattle.a68_equiv.specs.ModeKeys.{IsNewKey}
use Rattle.a68_partition.specs.Rounds.{at_key}
use Rattle.a68_equiv.proofs.Keeping.{old_found, none_found}
use Rattle.a68_equiv.proofs.interning.looked_up.Goals as goal

pub returns-in-Some-clause-found : goal.returns-in-Some-clause-found
returns-in-Some-clause-found c =
    let nodes = c.args.modes.now in
    let s = c.args.shape.now in
    let t : Classified = c.args.classes.now in
    let kept : AreKept nodes t = c.requires.kept in
    let key = c.in_ok-key.key in
    let has : IsNewKey nodes t.of s false key.items = subst (λ (xs : List ℕ). IsNewKey nodes xs s false key.items) (◌∙◌ {A = List ℕ} c.deref.ensures.value (ap (λ (x : Classified). x.of) c.classes.view_is)) c.in_ok-key.ensures.key in
    let at : at_key t.nodes_by_key key.items ≡ Some c.in-Some.old.now = subst (λ (xs : List (Vec ℕ Global × ℕ)). at_key xs key.items ≡ Some c.in-Some.old.now) (ap (λ (x : Classified). x.nodes_by_key) c.classes.view_is) (sym c.in-Some.ensures.value) in
    old_found nodes s c.in_ok-key.ensures.nodes c.requires.formed c.requires.within t.of kept.exact t.nodes_by_key kept.firsts kept.nodes_found key has c.in-Some.old.now at

pub returns-clause-found : goal.returns-clause-found
returns-clause-found c =
    let nodes = c.args.modes.now in
    let s = c.args.shape.now in
    let t : Classified = c.args.classes.now in
    let kept : AreKept nodes t = c.requires.kept in
    let key = c.in_ok-key.key in
    let of = ap (λ (x : Classified). x.of) c.classes.view_is in
    let has : IsNewKey nodes t.of s false key.items = subst (λ (xs : List ℕ). IsNewKey nodes xs s false key.items) (◌∙◌ {A = List ℕ} c.deref.ensures.value of) c.in_ok-key.ensures.key in
    let at : at_key t.nodes_by_key key.items ≡ None = subst (λ (xs : List (Vec ℕ Global × ℕ)). at_key xs key.items ≡ None) (ap (λ (x : Classified). x.nodes_by_key) c.classes.view_is) (sym c.in_default.ensures.value) in
    record {
      key = has;
      again = ◌∙◌ {A = List ℕ} c.in_ok-again.ensures.items c.deref-2.ensures.value;
      fixed = subst (λ (xs : List ℕ). IsNewKey nodes xs s true c.in_ok-fixed.fixed.items) (◌∙◌ {A = List ℕ} c.deref-3.ensures.value of) c.in_ok-fixed.ensures.key;
      none = none_found nodes s c.in_ok-key.ensures.nodes c.requires.formed c.requires.within t.of kept.exact t.nodes_by_key kept.firsts kept.nodes_found key has at;
    }
