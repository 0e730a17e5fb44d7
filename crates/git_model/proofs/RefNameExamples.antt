-- Ref names that keep a rule, and one beside each that breaks it.
use Rattle.std.proofs.Common.{◌≡◌, ℕ, List, true, false, refl, codes}
use Rattle.git_model.specs.RefName.{IsRefName, is_ref_name}
use Rattle.git_model.proofs.RefNames.{is_ref_name-Decides}

kept : (text : List ℕ) → is_ref_name text ≡ true → IsRefName text
kept text e = (is_ref_name-Decides text).0 e

broken : (text : List ℕ) → is_ref_name text ≡ false → ¬ IsRefName text
broken text e r = let yes = (is_ref_name-Decides text).1 r in cc

-- no component begins with a dot
pub dot_inside_a_component : IsRefName (codes "refs/heads/a.b")
unfolding is_ref_name
dot_inside_a_component = kept (codes "refs/heads/a.b") refl

pub dot_at_the_beginning : ¬ IsRefName (codes "refs/heads/.b")
unfolding is_ref_name
dot_at_the_beginning = broken (codes "refs/heads/.b") refl

-- no component ends with lock
pub lock_inside_a_component : IsRefName (codes "refs/heads/a.lock.b")
unfolding is_ref_name
lock_inside_a_component = kept (codes "refs/heads/a.lock.b") refl

pub lock_at_the_end : ¬ IsRefName (codes "refs/heads/a.lock/b")
unfolding is_ref_name
lock_at_the_end = broken (codes "refs/heads/a.lock/b") refl

-- no two dots
pub dots_apart : IsRefName (codes "refs/heads/a.b.c")
unfolding is_ref_name
dots_apart = kept (codes "refs/heads/a.b.c") refl

pub two_dots : ¬ IsRefName (codes "refs/heads/a..b")
unfolding is_ref_name
two_dots = broken (codes "refs/heads/a..b") refl

-- no forbidden byte
pub at_and_dash : IsRefName (codes "refs/heads/-@a")
unfolding is_ref_name
at_and_dash = kept (codes "refs/heads/-@a") refl

pub a_space : ¬ IsRefName (codes "refs/heads/a b")
unfolding is_ref_name
a_space = broken (codes "refs/heads/a b") refl

pub brace : IsRefName (codes "refs/heads/{a}")
unfolding is_ref_name
brace = kept (codes "refs/heads/{a}") refl

pub a_backslash : ¬ IsRefName (codes "refs/heads/a\\b")
unfolding is_ref_name
a_backslash = broken (codes "refs/heads/a\\b") refl

-- no empty component
pub one_letter : IsRefName (codes "refs/heads/a/b")
unfolding is_ref_name
one_letter = kept (codes "refs/heads/a/b") refl

pub two_slashes : ¬ IsRefName (codes "refs/heads//b")
unfolding is_ref_name
two_slashes = broken (codes "refs/heads//b") refl

pub at_last : IsRefName (codes "refs/heads/a/@")
unfolding is_ref_name
at_last = kept (codes "refs/heads/a/@") refl

pub slash_at_the_end : ¬ IsRefName (codes "refs/heads/a/")
unfolding is_ref_name
slash_at_the_end = broken (codes "refs/heads/a/") refl

-- no dot at the end
pub letter_at_the_end : IsRefName (codes "refs/heads/a.b")
unfolding is_ref_name
letter_at_the_end = kept (codes "refs/heads/a.b") refl

pub dot_at_the_end : ¬ IsRefName (codes "refs/heads/a.b.")
unfolding is_ref_name
dot_at_the_end = broken (codes "refs/heads/a.b.") refl

-- no at brace
pub at_alone : IsRefName (codes "refs/heads/a@b{c")
unfolding is_ref_name
at_alone = kept (codes "refs/heads/a@b{c") refl

pub at_and_brace : ¬ IsRefName (codes "refs/heads/a@{b")
unfolding is_ref_name
at_and_brace = broken (codes "refs/heads/a@{b") refl

-- begins with refs
pub outside_heads : IsRefName (codes "refs/x")
unfolding is_ref_name
outside_heads = kept (codes "refs/x") refl

pub no_refs : ¬ IsRefName (codes "heads/x")
unfolding is_ref_name
no_refs = broken (codes "heads/x") refl

-- is no namespace
pub namespace_like : IsRefName (codes "refs/namespaces")
unfolding is_ref_name
namespace_like = kept (codes "refs/namespaces") refl

pub a_namespace : ¬ IsRefName (codes "refs/namespaces/x/refs/heads/y")
unfolding is_ref_name
a_namespace = broken (codes "refs/namespaces/x/refs/heads/y") refl
