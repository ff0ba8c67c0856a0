-- What is proved of the hosts' numbers.
pub mod ReadsBack
