use Rattle.std.proofs.Common.{◌≡◌, ℕ, ◌-◌, ◌<◌, List, [], ◌∷◌, ◌++◌, length, Some, None, refl, sym, ap, ap₂, ◌∙◌, subst, arith, rules}
use Rattle.json.specs.Token.{Token}
use Rattle.json.specs.Json.{parse_map, after_end_array, read_key, items, members, value}
use Rattle.json.specs.Reads.{token_of}
use Rattle.json.proofs.Grammar.{value_is, value-begin_array, value-begin_object, read_key-shorter}
use Rattle.serde_json.specs.Data.{null, boolean, string, array, object, no_members, put}
use Rattle.serde_json.specs.Read.{of_json, of_items, converted}
use Rattle.serde_json.specs.View.{items_of}
use Rattle.fwd_json.proofs.TokenTurns.{converted-array, converted-object, item_read, item_refused, items_over, member_read, member_refused, key_refused, members_over, items_before, items_before-no_items, one_more_item, none_before}
use Rattle.fwd_value.specs.Val.{Val, vals_of, entries_of, list, mapping}
use Rattle.fwd_value.specs.View.{val_of}
use Rattle.fwd_json.specs.PutPair.{Rises, put_pair}
use Rattle.fwd_json.proofs.Putting.{pairs_of-put, sorted_put, rises}
use Rattle.fwd_json.proofs.WholeValues.{values_of-map, values_push, entries_of-pairs_of, number_read, number_refused}
use Rattle.fwd_json.proofs.reading.+read.Goals as goal

pub read-returns-in_err-token-clause-refused : goal.read-returns-in_err-token-clause-refused
read-returns-in_err-token-clause-refused t c refused =
    let empty : c.args.reader.now ≡ [] = grind arith in
    ap (converted of_json) (ap (value c.args.depth) empty ∙ value_is c.args.depth [])

pub read-returns-then-depth-eq0-clause-refused : goal.read-returns-then-depth-eq0-clause-refused
unfolding value
read-returns-then-depth-eq0-clause-refused t c never =
    let first : c.args.reader.now ≡ token_of c.in_ok-token.token ∷ c.next.new.self = grind arith in
    let none : c.args.depth ≡ 0 = omega arith in
    ap (converted of_json) (ap₂ value none (first ∙ ap (λ k. token_of k ∷ c.next.new.self) c.in-BeginArray.is))

pub read-returns-then-depth-eq0-2-clause-refused : goal.read-returns-then-depth-eq0-2-clause-refused
unfolding value
read-returns-then-depth-eq0-2-clause-refused t c never =
    let first : c.args.reader.now ≡ token_of c.in_ok-token.token ∷ c.next.new.self = grind arith in
    let none : c.args.depth ≡ 0 = omega arith in
    ap (converted of_json) (ap₂ value none (first ∙ ap (λ k. token_of k ∷ c.next.new.self) c.in-BeginObject.is))

pub read-returns-in_err-read_items-in-BeginArray-clause-refused : goal.read-returns-in_err-read_items-in-BeginArray-clause-refused
read-returns-in_err-read_items-in-BeginArray-clause-refused t c refused =
    let first : c.args.reader.now ≡ token_of c.in_ok-token.token ∷ c.next.new.self = grind arith in
    let opened = ap (converted of_json) (ap (value c.args.depth) (first ∙ ap (λ k. token_of k ∷ c.next.new.self) c.in-BeginArray.is) ∙ value-begin_array c.args.depth c.next.new.self (omega arith)) ∙ converted-array (items (value (c.args.depth - 1)) (length c.next.new.self) c.next.new.self) in
    opened ∙ ap (parse_map array) (c.read_items.ensures.refused (grind arith))

pub read-returns-in_err-read_members-in-BeginObject-clause-refused : goal.read-returns-in_err-read_members-in-BeginObject-clause-refused
read-returns-in_err-read_members-in-BeginObject-clause-refused t c refused =
    let first : c.args.reader.now ≡ token_of c.in_ok-token.token ∷ c.next.new.self = grind arith in
    let opened = ap (converted of_json) (ap (value c.args.depth) (first ∙ ap (λ k. token_of k ∷ c.next.new.self) c.in-BeginObject.is) ∙ value-begin_object c.args.depth c.next.new.self (omega arith)) ∙ converted-object (members (value (c.args.depth - 1)) (length c.next.new.self) c.next.new.self) in
    opened ∙ ap (parse_map object) (c.read_members.ensures.refused (grind arith))

pub read-returns-in_ok-from_slice-in-String-clause-ok : goal.read-returns-in_ok-from_slice-in-String-clause-ok
read-returns-in_ok-from_slice-in-String-clause-ok t c =
    let first : c.args.reader.now ≡ token_of c.in_ok-token.token ∷ c.next.new.self = grind arith in
    let is : c.args.reader.now ≡ Token.string c.in-String.text.now ∷ c.next.new.self = grind (arith, first) in
    (string c.in-String.text.now, ap (converted of_json) (ap (value c.args.depth) is ∙ value_is c.args.depth _), search rules)

pub read-returns-in-Bool-clause-ok : goal.read-returns-in-Bool-clause-ok
read-returns-in-Bool-clause-ok t c =
    let first : c.args.reader.now ≡ token_of c.in_ok-token.token ∷ c.next.new.self = grind arith in
    let is : c.args.reader.now ≡ Token.boolean c.in-Bool.truth ∷ c.next.new.self = grind (arith, first) in
    (boolean c.in-Bool.truth, ap (converted of_json) (ap (value c.args.depth) is ∙ value_is c.args.depth _), refl)

pub read-returns-in-Null-clause-ok : goal.read-returns-in-Null-clause-ok
read-returns-in-Null-clause-ok t c =
    let first : c.args.reader.now ≡ token_of c.in_ok-token.token ∷ c.next.new.self = grind arith in
    let is : c.args.reader.now ≡ Token.null ∷ c.next.new.self = grind (arith, first) in
    (null, ap (converted of_json) (ap (value c.args.depth) is ∙ value_is c.args.depth _), refl)

pub read-returns-in-Some-clause-ok : goal.read-returns-in-Some-clause-ok
read-returns-in-Some-clause-ok t c =
    let first : c.args.reader.now ≡ token_of c.in_ok-token.token ∷ c.next.new.self = grind arith in
    let is : c.args.reader.now ≡ Token.number c.in-Number.text.now ∷ c.next.new.self = grind (arith, first) in
    let num = number_read c.in-Number.text.now c.next.new.self (val_of c.in-Some.value) (sym c.in-Some.ensures) in
    (num.0, ap (converted of_json) (ap (value c.args.depth) is ∙ value_is c.args.depth _) ∙ num.1, num.2)

pub read-returns-in-None-clause-refused : goal.read-returns-in-None-clause-refused
read-returns-in-None-clause-refused t c refused =
    let first : c.args.reader.now ≡ token_of c.in_ok-token.token ∷ c.next.new.self = grind arith in
    let is : c.args.reader.now ≡ Token.number c.in-Number.text.now ∷ c.next.new.self = grind (arith, first) in
    ap (converted of_json) (ap (value c.args.depth) is ∙ value_is c.args.depth _) ∙ number_refused c.in-Number.text.now c.next.new.self (sym c.in-None.ensures)

pub read-returns-in-EndObject-clause-refused : goal.read-returns-in-EndObject-clause-refused
read-returns-in-EndObject-clause-refused t c refused =
    let first : c.args.reader.now ≡ token_of c.in_ok-token.token ∷ c.next.new.self = grind arith in
    let none : value c.args.depth c.args.reader.now ≡ None = rw (value_is c.args.depth c.args.reader.now, first) (grind arith) in
    ap (converted of_json) none

pub read-returns-in_ok-read_items-in-BeginArray-clause-ok : goal.read-returns-in_ok-read_items-in-BeginArray-clause-ok
read-returns-in_ok-read_items-in-BeginArray-clause-ok t c =
    let first : c.args.reader.now ≡ token_of c.in_ok-token.token ∷ c.next.new.self = grind arith in
    let opened = ap (converted of_json) (ap (value c.args.depth) (first ∙ ap (λ k. token_of k ∷ c.next.new.self) c.in-BeginArray.is) ∙ value-begin_array c.args.depth c.next.new.self (omega arith)) ∙ converted-array (items (value (c.args.depth - 1)) (length c.next.new.self) c.next.new.self) in
    let found = c.in_ok-read_items-in-BeginArray in
    let ds = found.ensures.ok in
    (array ds.0, opened ∙ ap (parse_map array) ds.1, ap list ds.2)

pub read-returns-in_ok-read_members-in-BeginObject-clause-ok : goal.read-returns-in_ok-read_members-in-BeginObject-clause-ok
read-returns-in_ok-read_members-in-BeginObject-clause-ok t c =
    let first : c.args.reader.now ≡ token_of c.in_ok-token.token ∷ c.next.new.self = grind arith in
    let opened = ap (converted of_json) (ap (value c.args.depth) (first ∙ ap (λ k. token_of k ∷ c.next.new.self) c.in-BeginObject.is) ∙ value-begin_object c.args.depth c.next.new.self (omega arith)) ∙ converted-object (members (value (c.args.depth - 1)) (length c.next.new.self) c.next.new.self) in
    let found = c.in_ok-read_members-in-BeginObject in
    let ms = found.ensures.ok in
    (object ms.0, opened ∙ ap (parse_map object) ms.1, ap mapping (sym (entries_of-pairs_of ms.0) ∙ ap entries_of ms.2))

pub read_items-items-init : goal.read_items-items-init
read_items-items-init t c =
    let all = converted of_items (items (value c.args.depth) (length c.args.reader.now) c.args.reader.now) in
    (length c.args.reader.now, [], sym c.new-found.ensures, omega arith, none_before all, omega arith)

pub read_items-returns-in_err-item-clause-refused : goal.read_items-returns-in_err-item-clause-refused
read_items-returns-in_err-item-clause-refused t c refused =
    let p = value c.args.depth in
    let l = c.items in
    let h = l.invariant in
    let going : (after_end_array l.reader ≡ None) × (c.take_end_array.new.self ≡ l.reader) = grind arith in
    h.4 ∙ ap (parse_map (items_before h.1)) (item_refused p h.0 l.reader going.0 (rw (← going.1) (c.read.ensures.refused (grind arith))))

pub read_items-items-preserved : goal.read_items-items-preserved
read_items-items-preserved t c =
    let p = value c.args.depth in
    let l = c.items in
    let h = l.invariant in
    let n = h.0 in
    let going : (after_end_array l.reader ≡ None) × (c.take_end_array.new.self ≡ l.reader) = grind arith in
    let done = c.in_ok-item.ensures in
    let d = done.ok.0 in
    let r = c.read.new.reader in
    let less : length r < length l.reader = rw (← going.1) done.shorter in
    let turn = item_read p n l.reader r d (omega (arith, h.3)) going.0 (rw (← going.1) done.ok.1) in (
      n - 1,
      h.1 ++ d ∷ [],
      values_push h.1 d ∙ ap₂ (λ (vs : List Val) (v : Val). vs ++ v ∷ []) h.2 done.ok.2 ∙ sym c.in_ok-push.ensures.ok,
      omega (arith, h.3),
      h.4 ∙ ap (parse_map (items_before h.1)) turn ∙ one_more_item h.1 d _,
      omega (arith, h.5),
    )

pub read_items-returns-clause-ok : goal.read_items-returns-clause-ok
read_items-returns-clause-ok t c =
    let p = value c.args.depth in
    let l = c.items in
    let h = l.invariant in
    let r = c.take_end_array.new.self in
    (items_of h.1, h.4 ∙ ap (parse_map (items_before h.1)) (items_over p h.0 l.reader r h.3 (grind arith)) ∙ ap (λ ds. Some (ds, r)) (items_before-no_items h.1), values_of-map h.1 ∙ ap vals_of h.2)

pub read_members-members-init : goal.read_members-members-init
read_members-members-init t c = (length c.args.reader.now, no_members, tt, sym c.in_ok-found.ensures, omega arith, refl, omega arith)

pub read_members-returns-in_err-key-clause-refused : goal.read_members-returns-in_err-key-clause-refused
read_members-returns-in_err-key-clause-refused t c refused =
    let h = c.members.invariant in
    h.5 ∙ key_refused (value c.args.depth) h.1 h.0 c.members.reader c.in_err-key.ensures.value

pub read_members-returns-in_err-member-clause-refused : goal.read_members-returns-in_err-member-clause-refused
read_members-returns-in_err-member-clause-refused t c refused =
    let l = c.members in
    let h = l.invariant in
    let k = c.in-Some.key.now in
    let s = c.next_key.new.self in
    let named : read_key l.reader ≡ Some (Some k, s) = grind arith in
    h.5 ∙ member_refused (value c.args.depth) h.1 h.0 k l.reader s named (c.read.ensures.refused (grind arith))

pub read_members-put-requires : goal.read_members-put-requires
read_members-put-requires t c = let h = c.members.invariant in subst Rises h.3 (rises h.1 h.2)

pub read_members-members-preserved : goal.read_members-members-preserved
read_members-members-preserved t c =
    let p = value c.args.depth in
    let l = c.members in
    let h = l.invariant in
    let n = h.0 in
    let k = c.in-Some.key.now in
    let s = c.next_key.new.self in
    let named : read_key l.reader ≡ Some (Some k, s) = grind arith in
    let done = c.in_ok-member.ensures in
    let d = done.ok.0 in
    let r = c.read.new.reader in
    let less = read_key-shorter l.reader (Some k) s named in
    let lesser = done.shorter in
    let copied : c.as_bytes.result.now ≡ k = search rules in (
      n - 1,
      put k d h.1,
      sorted_put k d h.1 h.2,
      pairs_of-put k d h.1 ∙ ap₂ (λ (v : Val) (ps : List (Val × Val)). put_pair k v ps) done.ok.2 h.3 ∙ ap (λ (name : List ℕ). put_pair name (val_of c.in_ok-member.member) l.found) (sym copied) ∙ sym c.in_ok-put.ensures,
      omega (arith, h.4),
      h.5 ∙ member_read p h.1 n k l.reader s r d (omega (arith, h.4)) named done.ok.1,
      omega (arith, h.6),
    )

pub read_members-returns-clause-ok : goal.read_members-returns-clause-ok
read_members-returns-clause-ok t c =
    let l = c.members in
    let h = l.invariant in
    (h.1, h.5 ∙ members_over (value c.args.depth) h.1 h.0 l.reader c.next_key.new.self h.4 (grind arith), h.3)
