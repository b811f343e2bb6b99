use Rattle.std.proofs.Common.{◌≡◌, ◌+◌, ◌≤◌, ◌∷◌, ◌++◌, drop, map, option_map, string_bytes, sym, ap, subst, ◌∙◌, arith}
use Rattle.std.proofs.lemmas.List.{append_assoc}
use Rattle.std.specs.Option.{IfSome}
use Rattle.regex.specs.Names.{names_of}
use Rattle.regex.specs.Bytes.{match_haystack, match_span}
use Rattle.regex.specs.Writes.{group_of}
use Rattle.fwd_base.specs.Pattern.{captures_from, named_capture, captured}
use Rattle.fwd_base.proofs.MappedLists.{drop-map-step}
use Rattle.fwd_base.proofs.search.named_captures.Goals as goal

pub loop-n-preserved : goal.loop-n-preserved
loop-n-preserved c = λ text m is.
    let names = names_of c.args.names.now in
    let n = c.loop-n.n in
    let name = option_map string_bytes c.index-names-n.result in
    let first : drop n names ≡ name ∷ drop (n + 1) names = drop-map-step (option_map string_bytes) c.args.names.now n c.index-names-n.result (omega arith) c.index-names-n.is in
    let from_one : 1 ≤ n = omega arith in
    let span : option_map match_span c.get.result ≡ group_of m n = c.get.ensures.found ∙ is.2 n from_one in
    let within = subst (λ t. IfSome c.get.result (λ part. match_haystack part ≡ t)) is.0 c.get.ensures.within in
    let pushed : map captured c.push_named.new.named.items ≡ map captured c.loop-n.named.items ++ named_capture text name (group_of m n) =
    c.in_ok-push_named.ensures text within ∙ ap (λ s. map captured c.loop-n.named.items ++ named_capture text name s) span in
    let later = captures_from text m (n + 1) (drop (n + 1) names) in
    ap (λ captures. captures ++ later) pushed ∙ append_assoc (map captured c.loop-n.named.items) (named_capture text name (group_of m n)) later
    ∙ ap (λ left. map captured c.loop-n.named.items ++ captures_from text m n left) (sym first) ∙ c.loop-n.invariant text m is
