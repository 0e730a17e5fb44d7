-- Idents that keep a rule, and those beside them that break it.
use Rattle.std.proofs.Common.{◌≡◌, Ok, Err, refl, codes}
use Rattle.git_model.specs.IdentReading.{BadIdentity, BadDate, read_ident, after_name, after_email, is_date, ident_time}

-- a name ends in a space, or there is none; where there is none, a space is put before it
pub a_name : read_ident (codes "A U Thor <a@b> 0 +0000") ≡ Ok (codes "A U Thor <a@b> 0 +0000")
unfolding read_ident after_name after_email is_date
a_name = refl

pub no_name : read_ident (codes "<a@b> 0 +0000") ≡ Ok (codes " <a@b> 0 +0000")
unfolding read_ident after_name after_email is_date
no_name = refl

pub a_space_alone : read_ident (codes " <> 0 +0000") ≡ Ok (codes " <> 0 +0000")
unfolding read_ident after_name after_email is_date
a_space_alone = refl

pub no_space_before_the_email : read_ident (codes "A<a@b> 0 +0000") ≡ Err BadIdentity
unfolding read_ident after_name after_email is_date
no_space_before_the_email = refl

-- names and emails hold neither `<` nor `>`
pub other_marks : read_ident (codes "A [x] <a b> 0 +0000") ≡ Ok (codes "A [x] <a b> 0 +0000")
unfolding read_ident after_name after_email is_date
other_marks = refl

pub greater_in_the_name : read_ident (codes "A> <a@b> 0 +0000") ≡ Err BadIdentity
unfolding read_ident after_name after_email is_date
greater_in_the_name = refl

pub less_in_the_email : read_ident (codes "A <a<b> 0 +0000") ≡ Err BadIdentity
unfolding read_ident after_name after_email is_date
less_in_the_email = refl

pub no_email : read_ident (codes "A 0 +0000") ≡ Err BadIdentity
unfolding read_ident after_name after_email is_date
no_email = refl

-- a space comes after the email
pub no_space_after_the_email : read_ident (codes "A <a@b>0 +0000") ≡ Err BadIdentity
unfolding read_ident after_name after_email is_date
no_space_after_the_email = refl

pub no_date : read_ident (codes "A <a@b> ") ≡ Err BadDate
unfolding read_ident after_name after_email is_date
no_date = refl

-- the seconds are 1 to 20 digits
pub twenty_digits : read_ident (codes "A <a@b> 00000000000000000001 +0000") ≡ Ok (codes "A <a@b> 00000000000000000001 +0000")
unfolding read_ident after_name after_email is_date
twenty_digits = refl

pub twenty_one_digits : read_ident (codes "A <a@b> 000000000000000000001 +0000") ≡ Err BadDate
unfolding read_ident after_name after_email is_date
twenty_one_digits = refl

pub no_digits : read_ident (codes "A <a@b>  +0000") ≡ Err BadDate
unfolding read_ident after_name after_email is_date
no_digits = refl

pub a_letter : read_ident (codes "A <a@b> 1x +0000") ≡ Err BadDate
unfolding read_ident after_name after_email is_date
a_letter = refl

-- with a value below 2^64
pub greatest_value : read_ident (codes "A <a@b> 18446744073709551615 +0000") ≡ Ok (codes "A <a@b> 18446744073709551615 +0000")
unfolding read_ident after_name after_email is_date
greatest_value = refl

pub value_too_large : read_ident (codes "A <a@b> 18446744073709551616 +0000") ≡ Err BadDate
unfolding read_ident after_name after_email is_date
value_too_large = refl

-- the offset is a sign and four digits
pub four_digits : read_ident (codes "A <a@b> 0 -9999") ≡ Ok (codes "A <a@b> 0 -9999")
unfolding read_ident after_name after_email is_date
four_digits = refl

pub three_digits : read_ident (codes "A <a@b> 0 +000") ≡ Err BadDate
unfolding read_ident after_name after_email is_date
three_digits = refl

pub six_digits : read_ident (codes "A <a@b> 0 +000000") ≡ Err BadDate
unfolding read_ident after_name after_email is_date
six_digits = refl

pub no_sign : read_ident (codes "A <a@b> 0 0000") ≡ Err BadDate
unfolding read_ident after_name after_email is_date
no_sign = refl

pub text_after : read_ident (codes "A <a@b> 0 +0000 ") ≡ Err BadDate
unfolding read_ident after_name after_email is_date
text_after = refl

-- the time is the value of the digits
pub time_with_zeros : ident_time (codes "A <a@b> 0012 +0100") ≡ 12
unfolding ident_time after_name after_email
time_with_zeros = refl
