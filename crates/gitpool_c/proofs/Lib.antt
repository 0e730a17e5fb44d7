mod Handles
mod Lists
mod Values
