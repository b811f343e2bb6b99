use Rattle.std.proofs.Common.{◌≡◌, List, length, sym, ◌∙◌, ap, subst, arith}
use Rattle.fwd_secure.specs.declared.handshakes.KeptBytes.{KeptBytes}
use Rattle.fwd_secure.specs.Kept.{without_first_given, ArePieces}
use Rattle.fwd_secure.proofs.KeptLists.{first_stands, none_stands, first_piece, rest_pieces}
use Rattle.fwd_secure.proofs.state.State.take_given.Goals as goal

pub remove-requires : goal.remove-requires
remove-requires c =
    let at = first_stands c.args.paused c.self.inside.kept.items c.in-Some.index (cc (c.in-Some.ensures, c.deref.ensures.value)) in
    omega (arith, at.within, c.deref.ensures.len, ap (λ (l : List KeptBytes). length l) c.deref.ensures.value)

pub invariant_of-self : goal.invariant_of-self
invariant_of-self c =
    let at = first_stands c.args.paused c.self.inside.kept.items c.in-Some.index (cc (c.in-Some.ensures, c.deref.ensures.value)) in
    subst (λ (l : List KeptBytes). ArePieces l) (sym (c.remove.ensures.items ∙ at.left)) (rest_pieces c.args.paused c.self.inside.kept.items c.self.invariant)

pub returns-in-Some-clause-first : goal.returns-in-Some-clause-first
returns-in-Some-clause-first c =
    let at = first_stands c.args.paused c.self.inside.kept.items c.in-Some.index (cc (c.in-Some.ensures, c.deref.ensures.value)) in
    rw (← c.self.view_is) (cc (c.remove.ensures.value, at.is c.remove.result))

pub returns-in-Some-clause-rest : goal.returns-in-Some-clause-rest
returns-in-Some-clause-rest c =
    let at = first_stands c.args.paused c.self.inside.kept.items c.in-Some.index (cc (c.in-Some.ensures, c.deref.ensures.value)) in
    let left : c.remove.new.self.items ≡ without_first_given c.args.paused c.self.inside.kept.items = c.remove.ensures.items ∙ at.left in
    rw (← c.self.view_is)
    (λ i. record {
      listens = c.self.inside.listens.items;
      held = c.self.inside.held.entries;
      joined = c.self.inside.joined.entries;
      links = c.self.inside.links.entries;
      kept = left i;
      wrongs = c.self.inside.wrongs;
    })

pub returns-in-Some-clause-piece : goal.returns-in-Some-clause-piece
returns-in-Some-clause-piece c =
    let at = first_stands c.args.paused c.self.inside.kept.items c.in-Some.index (cc (c.in-Some.ensures, c.deref.ensures.value)) in
    first_piece c.args.paused c.self.inside.kept.items c.remove.result c.self.invariant (cc (c.remove.ensures.value, at.is c.remove.result))

pub returns-in-None-clause-first : goal.returns-in-None-clause-first
returns-in-None-clause-first c =
    let none = none_stands c.args.paused c.self.inside.kept.items (cc (c.in-None.ensures, c.deref.ensures.value)) in
    rw (← c.self.view_is) none.0

pub returns-in-None-clause-rest : goal.returns-in-None-clause-rest
returns-in-None-clause-rest c =
    let none = none_stands c.args.paused c.self.inside.kept.items (cc (c.in-None.ensures, c.deref.ensures.value)) in
    rw (← c.self.view_is)
    (λ i. record {
      listens = c.self.inside.listens.items;
      held = c.self.inside.held.entries;
      joined = c.self.inside.joined.entries;
      links = c.self.inside.links.entries;
      kept = none.1 i;
      wrongs = c.self.inside.wrongs;
    })
