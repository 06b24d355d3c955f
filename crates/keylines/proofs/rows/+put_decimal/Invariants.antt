-- `put_decimal` meets its contract: the digits of a tenth, and then the last digit; the number falls with each call.
use Rattle.keylines.proofs.rows.+put_decimal.Given as goal

abbrev pub decreases-put_decimal : goal.decreases-put_decimal
decreases-put_decimal l = l.n
