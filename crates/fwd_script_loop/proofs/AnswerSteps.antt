-- The remaining answers after one was used up.
use Rattle.std.proofs.Common.{◌≡◌, ℕ, ◌+◌, ◌-◌, ◌^◌, ◌≤◌, Bool, true, false, ◌&&◌, eqb, ltb, if◌then◌else◌, List, [], ◌∷◌, ◌++◌, length, map, drop, take, min, Option, Some, None, option_map, unwrap_or, refl, sym, ap, subst, ◌∙◌, arith}
use Rattle.std.specs.List.{cons_option, filter_map}
use Rattle.fwd_outside.specs.Loop.{PushAnswer}
use Rattle.fwd_script.specs.declared.schedule.Given.{Given}
use Rattle.fwd_script.specs.declared.schedule.PushWord.{PushWord}
use Rattle.fwd_script_loop.specs.FirstMatch.{first_in, without_first}
use Rattle.fwd_script_loop.specs.AnswerQueues.{lane_of, picked}
use Rattle.fwd_script_loop.specs.Lines.{dial_in, given_in, push_in, reply_in, word_answer, word_in}
use Rattle.fwd_script_loop.specs.Place.{Place, after_dial, after_push, after_push_to, after_wait, beginning, limit_push, dialed, is_for, linked_to, next_for, output_of, pushed, pushed_to}
use Rattle.fwd_script_loop.specs.AnswersLeft.{Adds, AnswersLeft}
use Rattle.fwd_script_loop.specs.declared.answers.Answers.{Answers}
use Rattle.fwd_script.specs.declared.schedule.Planned.{Planned}
use Rattle.fwd_outside.specs.Loop as outside
use Rattle.fwd_script_loop.proofs.OutputAnswers.{next_picked, picked_append, picked_without}

-- one answer of an output is used up
pub lane_after : {T : Type 0} (o output : ℕ) (old new : List T) (left : List (ℕ × T)) → new ≡ (if eqb o output then drop 1 old else old) → old ≡ picked o left → new ≡ picked o (without_first (is_for output) left)
lane_after {T} o output old new left is held =
    is ∙ ap (λ (l : List T). if eqb o output then drop 1 l else l) held ∙ sym (picked_without o output left)

map_rest : {T U : Type 0} (f : T → U) (b : Bool) (xs : List T) → map f (if b then drop 1 xs else xs) ≡ (if b then drop 1 (map f xs) else map f xs)
map_rest f true [] = refl
map_rest f true (x ∷ xs) = refl
map_rest f false xs = refl

pub mapped_after : {T U : Type 0} (f : T → U) (o output : ℕ) (old new : List T) (left : List (ℕ × U)) → new ≡ (if eqb o output then drop 1 old else old) → map f old ≡ picked o left
    → map f new ≡ picked o (without_first (is_for output) left)
mapped_after {T} {U} f o output old new left is held =
    ap (λ (l : List T). map f l) is ∙ map_rest f (eqb o output) old ∙ ap (λ (l : List U). if eqb o output then drop 1 l else l) held ∙ sym (picked_without o output left)

-- the next answer of an output
pub next_lane : {T : Type 0} (output : ℕ) (lane : List T) (left : List (ℕ × T)) → lane ≡ picked output left → first_in lane ≡ next_for output left
next_lane {T} output lane left held = ap (λ (l : List T). first_in l) held ∙ sym (next_picked output left)

first_map : {T U : Type 0} (f : T → U) (xs : List T) → option_map f (first_in xs) ≡ first_in (map f xs)
first_map f [] = refl
first_map f (x ∷ xs) = refl

pub next_mapped : {T U : Type 0} (f : T → U) (output : ℕ) (lane : List T) (left : List (ℕ × U)) → map f lane ≡ picked output left → option_map f (first_in lane) ≡ next_for output left
next_mapped {T} {U} f output lane left held = first_map f lane ∙ ap (λ (l : List U). first_in l) held ∙ sym (next_picked output left)

-- the link that a dial gives
pub dialed_when : (p : Place) (output given : ℕ) (lane : List Bool) (b c : Bool) → lane ≡ picked output p.left.dials → given ≡ length p.links → b ≡ unwrap_or (first_in lane) true → c ≡ ltb given (2 ^ 64 - 1)
    → (if b && c then Some (given + 1) else None) ≡ dialed p output
dialed_when p output given lane b c held counted is below =
    ap (λ (x : Bool). if x && c then Some (given + 1) else None) (is ∙ ap (λ (o : Option Bool). unwrap_or o true) (next_lane output lane p.left.dials held))
    ∙ ap (λ (x : Bool). if unwrap_or (next_for output p.left.dials) true && x then Some (given + 1) else None) below
    ∙ ap (λ (n : ℕ). if unwrap_or (next_for output p.left.dials) true && ltb n (2 ^ 64 - 1) then Some (n + 1) else None) counted

-- answers of a kind, followed by one more
cons_append : {X : Type 0} (o : Option X) (xs : List X) → cons_option o [] ++ xs ≡ cons_option o xs
cons_append None xs = refl
cons_append (Some x) xs = refl

pub kinds_append : {X Y : Type 0} (f : X → Option Y) (xs : List X) (x : X) → filter_map f (xs ++ x ∷ []) ≡ filter_map f xs ++ cons_option (f x) []
kinds_append f [] x = refl
kinds_append {X} {Y} f (y ∷ xs) x = ap (λ (l : List Y). cons_option (f y) l) (kinds_append f xs x) ∙ by (f y)
  where
    by : (o : Option Y) → cons_option o (filter_map f xs ++ cons_option (f x) []) ≡ cons_option o (filter_map f xs) ++ cons_option (f x) []
    by None = refl
    by (Some z) = refl

-- one more answer, appended to those of its kind
added : (lines : List Planned) (answers : List Given) (given : Given) (old new : Answers) → AnswersLeft old (beginning (given_in lines answers)) → Adds old new given
    → AnswersLeft new (beginning (given_in lines (answers ++ given ∷ [])))
added lines answers given old new stands adds = record {
  dials = λ o. adds.dials o ∙ ap (λ (l : List Bool). l ++ picked o (cons_option (dial_in given) [])) (stands.dials o)
      ∙ sym (picked_append o (filter_map dial_in answers) (cons_option (dial_in given) [])) ∙ ap (λ (l : List (ℕ × Bool)). picked o l) (sym (kinds_append dial_in answers given));
  pushes = λ o. adds.pushes o ∙ ap (λ (l : List PushAnswer). l ++ picked o (cons_option (push_in given) [])) (stands.pushes o)
      ∙ sym (picked_append o (filter_map push_in answers) (cons_option (push_in given) [])) ∙ ap (λ (l : List (ℕ × PushAnswer)). picked o l) (sym (kinds_append push_in answers given));
  replies = adds.replies ∙ ap (λ (l : List Bool). l ++ cons_option (reply_in given) []) stands.replies ∙ sym (kinds_append reply_in answers given);
  words = adds.words ∙ ap (λ (l : List ℕ). l ++ cons_option (word_in given) []) stands.words ∙ sym (kinds_append word_in answers given);
  links = adds.links ∙ stands.links;
}

pub added_at : (lines : List Planned) (items : List Given) (i : ℕ) (given : Given) (old new : Answers) → take (i + 1) items ≡ take i items ++ given ∷ []
    → AnswersLeft old (beginning (given_in lines (take i items))) → Adds old new given → AnswersLeft new (beginning (given_in lines (take (i + 1) items)))
added_at lines items i given old new more stands adds =
    subst (λ (l : List Given). AnswersLeft new (beginning (given_in lines l))) (sym more)
    (added lines (take i items) given old new stands adds)

-- a dial uses up an answer of its output
pub dialed_after : (p : Place) (old new : Answers) (output : ℕ) (number : Option ℕ) → AnswersLeft old p → number ≡ dialed p output
    → ((o : ℕ) → lane_of new.dials.lanes o ≡ (if eqb o output then drop 1 (lane_of old.dials.lanes o) else lane_of old.dials.lanes o))
    → ((o : ℕ) → lane_of new.pushes.lanes o ≡ lane_of old.pushes.lanes o) → new.replies.items ≡ old.replies.items → new.words.items ≡ old.words.items → new.links.items ≡ linked_to old.links.items output number
    → AnswersLeft new (after_dial p output)
dialed_after p old new output number stands is takes pushes replies words links = record {
  dials = λ o. lane_after o output (lane_of old.dials.lanes o) (lane_of new.dials.lanes o) p.left.dials (takes o) (stands.dials o);
  pushes = λ o. ap (λ (l : List PushWord). map word_answer l) (pushes o) ∙ stands.pushes o;
  replies = replies ∙ stands.replies;
  words = words ∙ stands.words;
  links = links ∙ ap (λ (l : List (Option ℕ)). linked_to l output number) stands.links ∙ ap (λ (n : Option ℕ). linked_to p.links output n) is;
}

-- a push to an open link has the answer of its output
pub pushed_when : (p : Place) (a : Answers) (link len output : ℕ) (word : Option PushWord) (answer : PushWord) → AnswersLeft a p → Some output ≡ output_of a.links.items link
    → word ≡ first_in (lane_of a.pushes.lanes output) → word_answer answer ≡ limit_push (option_map word_answer word) len → word_answer answer ≡ pushed p link len
pushed_when p a link len output word answer stands opens first is =
    is
    ∙ ap (λ (w : Option PushWord). limit_push (option_map word_answer w) len) first
    ∙ ap (λ (o : Option PushAnswer). limit_push o len) (next_mapped word_answer output (lane_of a.pushes.lanes output) p.left.pushes (stands.pushes output))
    ∙ ap (λ (o : Option ℕ). pushed_to p o len) (opens ∙ ap (λ (l : List (Option ℕ)). output_of l link) stands.links)

pub pushed_after : (p : Place) (old new : Answers) (link output : ℕ) → AnswersLeft old p → Some output ≡ output_of old.links.items link
    → ((o : ℕ) → lane_of new.pushes.lanes o ≡ (if eqb o output then drop 1 (lane_of old.pushes.lanes o) else lane_of old.pushes.lanes o))
    → ((o : ℕ) → lane_of new.dials.lanes o ≡ lane_of old.dials.lanes o) → new.replies.items ≡ old.replies.items → new.words.items ≡ old.words.items → new.links.items ≡ old.links.items
    → AnswersLeft new (after_push p link)
pushed_after p old new link output stands opens takes dials replies words links =
    let goes : AnswersLeft new (after_push_to p (Some output)) = record {
      dials = λ o. dials o ∙ stands.dials o;
      pushes = λ o. mapped_after word_answer o output (lane_of old.pushes.lanes o) (lane_of new.pushes.lanes o) p.left.pushes (takes o) (stands.pushes o);
      replies = replies ∙ stands.replies;
      words = words ∙ stands.words;
      links = links ∙ stands.links;
    } in
    subst (λ (o : Option ℕ). AnswersLeft new (after_push_to p o)) (opens ∙ ap (λ (l : List (Option ℕ)). output_of l link) stands.links) goes

-- no push writes more than its length
capped_within : (answer : Option PushAnswer) (len taken : ℕ) → outside.Took taken ≡ limit_push answer len → taken ≤ len
capped_within None len taken is = let same : taken ≡ len = cc is in omega arith
capped_within (Some (outside.Took bytes)) len taken is = let same : taken ≡ min bytes len = cc is in omega arith
capped_within (Some outside.Again) len taken is = absurd (cc is)
capped_within (Some outside.Broke) len taken is = absurd (cc is)

pushed_to_within : (p : Place) (output : Option ℕ) (len taken : ℕ) → outside.Took taken ≡ pushed_to p output len → taken ≤ len
pushed_to_within p (Some output) len taken is = capped_within (next_for output p.left.pushes) len taken is
pushed_to_within p None len taken is = absurd (cc is)

pub pushed_within : (p : Place) (link len taken : ℕ) → outside.Took taken ≡ pushed p link len → taken ≤ len
pushed_within p link len taken is = pushed_to_within p (output_of p.links link) len taken is

-- a wait leaves the answers
pub waits : (a : Answers) (p : Place) (paused : ℕ) → AnswersLeft a p → AnswersLeft a (after_wait p paused)
waits a p paused stands = record { dials = stands.dials; pushes = stands.pushes; replies = stands.replies; words = stands.words; links = stands.links }
